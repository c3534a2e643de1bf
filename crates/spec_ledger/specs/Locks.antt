-- The order of locks is total, and ties just at one lock.
use Rattle.std.specs.Prelude.{◌≡◌, refl}
use Rattle.std.specs.Ordering.{is_eq, nat_cmp, eq_by_cmp}
use Rattle.std.specs.Cmp.{IsTotalOrder, on_total, then_total, nat_cmp_total, both_tied, unsigned_ties}
use Rattle.spec_ledger.specs.contracts.KindPartialEq.TheImpl as kinds
use Rattle.spec_ledger.specs.contracts.LockPartialEq.TheImpl as locks
use Rattle.spec_ledger.specs.declared.Kind.{Kind}
use Rattle.spec_ledger.specs.declared.Kind.TheVariants.{Map, Counter}
use Rattle.spec_ledger.specs.declared.Lock.{Lock}
use Rattle.spec_ledger.specs.Cells.{lock_cmp, rank}

pub lock_cmp_total : IsTotalOrder lock_cmp
lock_cmp_total = then_total (on_total (λ (a : Lock). a.contract) nat_cmp_total) (then_total (on_total (λ (a : Lock). rank a.kind) nat_cmp_total) (on_total (λ (a : Lock). a.key) nat_cmp_total))

kind_ties : (a b : Kind) → kinds.eq-value.it a b ≡ is_eq (nat_cmp (rank a) (rank b))
kind_ties Map Map = refl
kind_ties Map Counter = refl
kind_ties Counter Map = refl
kind_ties Counter Counter = refl

pub lock_ties : (a b : Lock) → locks.eq-value.it a b ≡ eq_by_cmp lock_cmp a b
lock_ties a b =
    both_tied _ _ (nat_cmp a.contract b.contract) _ (unsigned_ties a.contract b.contract)
    (both_tied _ _ (nat_cmp (rank a.kind) (rank b.kind)) (nat_cmp a.key b.key) (kind_ties a.kind b.kind) (unsigned_ties a.key b.key))
