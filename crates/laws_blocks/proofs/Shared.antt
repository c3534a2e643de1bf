-- A lock that two of three positions hold, and outcomes of two.
use Rattle.std.proofs.Common.{◌≡◌, ◌⊎◌, inl, ℕ, zero, suc, ◌<◌, ◌≤◌, Bool, true, false, cond, List, [], ◌∷◌, Option, Some, None, is_some, count_by, get_or, refl, sym, ap, subst, ◌∙◌, ⊎_elim, arith}
use Rattle.std.specs.Ordering.{eq_by_cmp}
use Rattle.std.specs.List.{Contains}
use Rattle.spec_ledger.specs.declared.Lock.{Lock}
use Rattle.spec_ledger.specs.declared.Mode.TheVariants.{Add as Adding}
use Rattle.spec_ledger.specs.declared.Entry.{Entry}
use Rattle.spec_ledger.specs.Cells.{lock_cmp}
use Rattle.spec_ledger.proofs.Maps.{is_key, lock_cmp_total, lock_cmp-IsAntisymmetric}
use Rattle.spec_block.specs.Schedule.{hold_in}
use Rattle.figures.specs.declared.hottest.SharedLock.{SharedLock}
use Rattle.figures.specs.declared.outcomes.OutcomeCount.{OutcomeCount}
use Rattle.figures.specs.declared.outcomes.OutcomeKind.TheVariants.{Returned, Trapped}
use Rattle.figures.specs.Hottest.{AreHottest, IsShared, holders}
use Rattle.figures.specs.Outcomes.{all_kinds, counts_among}
use Rattle.wtypes.specs.declared.TrapCode.TheVariants.{Unreachable}
use Rattle.laws_blocks.specs.SmallBlocks.{counter, holds, one_of, one_trapped, shared_by, two_and_one}

-- a lock that such a profile holds is its own
is_its : (e : Entry) (lock : Lock) → is_some (hold_in lock (e ∷ [])) ≡ true → lock ≡ e.lock
is_its e lock h = by (eq_by_cmp lock_cmp lock e.lock) refl h
  where
    by : (b : Bool) → eq_by_cmp lock_cmp lock e.lock ≡ b → is_some (cond b (Some (e.mode, e.turn)) (hold_in lock [])) ≡ true → lock ≡ e.lock
    by true same h = is_key lock_cmp_total lock_cmp-IsAntisymmetric lock e.lock same
    by false same h = absurd (cc h)

few : (a b : Bool) → a ≡ false → count_by (λ (x : Bool). x) (a ∷ a ∷ b ∷ []) ≤ 1
few true b e = absurd (cc e)
few false true e = omega arith
few false false e = omega arith

-- any other lock has one holder at most
lone : (lock : Lock) → is_some (hold_in lock (holds (counter 7) Adding 0)) ≡ false → holders two_and_one lock ≤ 1
lone lock h = few (is_some (hold_in lock (holds (counter 7) Adding 0))) (is_some (hold_in lock (holds (counter 8) Adding 0))) h

is_shared : IsShared two_and_one (shared_by (counter 7) 2)
is_shared = record { count = refl; several = omega arith }

only_one : (s : SharedLock) → IsShared two_and_one s → s ≡ shared_by (counter 7) 2
only_one s h = by (is_some (hold_in s.lock (holds (counter 7) Adding 0))) refl
  where
    by : (b : Bool) → is_some (hold_in s.lock (holds (counter 7) Adding 0)) ≡ b → s ≡ shared_by (counter 7) 2
    by true is =
        let here : s.lock ≡ counter 7 = is_its (record { lock = counter 7; mode = Adding; turn = 0 }) s.lock is in
        let number : s.positions ≡ 2 = h.count ∙ ap (holders two_and_one) here in
        λ i. record { lock = here i; positions = number i }
    by false is = absurd (let le = lone s.lock is in let count = h.count in let several = h.several in omega (arith, le, count, several))

one_in : (x y : SharedLock) (k : ℕ) → k < 1 → get_or (x ∷ []) k y ≡ y → x ≡ y
one_in x y zero lt e = e
one_in x y (suc k) lt e = absurd (omega (arith, lt))

pub hottest : AreHottest two_and_one (shared_by (counter 7) 2 ∷ [])
hottest = record {
  few = omega arith;
  shared = λ s c. subst (IsShared two_and_one) (one_in (shared_by (counter 7) 2) s c.0 c.1 c.2) is_shared;
  falling = λ i j d lt below. absurd (let one : j < 1 = below in omega (arith, lt, one));
  rest = λ s h. inl (0, omega arith, sym (only_one s h));
}

pub no_lone_lock : AreHottest two_and_one (shared_by (counter 8) 1 ∷ []) → ⊥
no_lone_lock h = let le : 2 ≤ 1 = (h.shared (shared_by (counter 8) 1) (0, omega arith, refl)).several in omega (arith, le)

pub no_other_number : AreHottest two_and_one (shared_by (counter 7) 3 ∷ []) → ⊥
no_other_number h = let is : 3 ≡ 2 = (h.shared (shared_by (counter 7) 3) (0, omega arith, refl)).count in omega (arith, is)

pub not_left_out : AreHottest two_and_one [] → ⊥
not_left_out h = ⊎_elim (λ c. let lt = c.1 in omega (arith, lt)) (λ full. let is : 0 ≡ 10 = full.0 in omega (arith, is)) (h.rest (shared_by (counter 7) 2) is_shared)

-- ---- outcomes

pub counts : counts_among all_kinds one_trapped ≡ one_of Returned ∷ one_of (Trapped Unreachable) ∷ []
counts = refl

pub not_returned : counts_among all_kinds one_trapped ≡ one_of Returned ∷ [] → ⊥
not_returned e = absurd (let both : one_of Returned ∷ one_of (Trapped Unreachable) ∷ [] ≡ one_of Returned ∷ [] = e in cc both)
