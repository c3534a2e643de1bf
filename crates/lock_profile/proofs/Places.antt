-- The order of turns at locks.
use Rattle.std.proofs.Common.{◌≡◌, ℕ, refl}
use Rattle.std.specs.declared.cmp.Ordering.{Ordering}
use Rattle.std.specs.declared.cmp.Ordering.TheVariants.{Less, Equal, Greater}
use Rattle.std.specs.Ordering.{nat_cmp, ordering_then}
use Rattle.std.specs.Cmp.{IsTotalOrder, on_total, then_total, nat_cmp_total}
use Rattle.std.specs.FinMap.{IsAntisymmetric, nat_cmp-IsAntisymmetric}
use Rattle.spec_ledger.specs.declared.Kind.{Kind}
use Rattle.spec_ledger.specs.declared.Kind.TheVariants.{Map, Counter}
use Rattle.spec_ledger.specs.Cells.{lock_cmp}
use Rattle.spec_ledger.proofs.Maps.{lock_cmp_total, lock_cmp-IsAntisymmetric}
use Rattle.lock_profile.specs.declared.lock_turn.LockTurn.{LockTurn}
use Rattle.lock_profile.specs.contracts.lock_turn.LockTurnOrd.TheImpl as derived
use Rattle.lock_profile.specs.LockTurns.{turn_cmp}

same_at : (c k t : ℕ) (p q : Kind) (d l u : ℕ) → derived.cmp-value.it (record { lock = record { contract = c; kind = p; key = k }; turn = t }) (record { lock = record { contract = d; kind = q; key = l }; turn = u })
    ≡ turn_cmp (record { lock = record { contract = c; kind = p; key = k }; turn = t }) (record { lock = record { contract = d; kind = q; key = l }; turn = u })
same_at c k t Map Map d l u = refl
same_at c k t Map Counter d l u = refl
same_at c k t Counter Map d l u = refl
same_at c k t Counter Counter d l u = refl

-- the derived order is the order of the definitions
pub derived_is : derived.cmp-value.it ≡ turn_cmp
derived_is = λ i a b. same_at a.lock.contract a.lock.key a.turn a.lock.kind b.lock.kind b.lock.contract b.lock.key b.turn i

pub turn_cmp_total : IsTotalOrder turn_cmp
turn_cmp_total = then_total (on_total (λ (a : LockTurn). a.lock) lock_cmp_total) (on_total (λ (a : LockTurn). a.turn) nat_cmp_total)

both_equal : (r s : Ordering) → ordering_then r s ≡ Equal → (r ≡ Equal) × (s ≡ Equal)
both_equal Less s e = cc
both_equal Equal s e = (refl, e)
both_equal Greater s e = cc

pub turn_cmp-IsAntisymmetric : IsAntisymmetric turn_cmp
turn_cmp-IsAntisymmetric a b e =
    let parts = both_equal (lock_cmp a.lock b.lock) (nat_cmp a.turn b.turn) e in
    let locks = lock_cmp-IsAntisymmetric _ _ parts.0 in
    let turns = nat_cmp-IsAntisymmetric _ _ parts.1 in
    λ i. record { lock = locks i; turn = turns i }
