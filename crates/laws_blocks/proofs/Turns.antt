-- Turns do not fall along the order, so that an edge goes forward.
use Rattle.std.proofs.Common.{◌≡◌, ℕ, ◌+◌, ◌-◌, ◌≤◌, inl, inr, Bool, true, false, cond, List, [], ◌∷◌, ◌++◌, Option, Some, take, drop, filter_map, refl, sym, ap, subst, ◌∙◌, arith, take-add}
use Rattle.std.specs.List.{AllByRecursion}
use Rattle.std.specs.Ordering.{eq_by_cmp}
use Rattle.std.proofs.lemmas.Bool.{cases_lt}
use Rattle.std.proofs.lemmas.List.Elements.{filter_map-append}
use Rattle.spec_ledger.specs.declared.Lock.{Lock}
use Rattle.spec_ledger.specs.declared.Mode.{Mode}
use Rattle.spec_ledger.specs.declared.Entry.{Entry}
use Rattle.spec_ledger.specs.Cells.{lock_cmp}
use Rattle.spec_ledger.specs.Order.{turn_by, groups_after, groups_before_last}
use Rattle.spec_block.proofs.Locks.{lock_is}
use Rattle.spec_block.specs.Verdicts.{mode_in}
use Rattle.spec_block.specs.Schedule.{hold_in, Holds, HaveTurns}
use Rattle.figures.specs.Chains.{AreForward}

-- ---- groups

more_after : (before : Mode) (xs ys : List Mode) → groups_after before xs ≤ groups_after before (xs ++ ys)
more_after before [] ys = omega arith
more_after before (m ∷ xs) ys = let rest = more_after m xs ys in omega (arith, rest)

more_before_last : (xs ys : List Mode) → groups_before_last xs ≤ groups_before_last (xs ++ ys)
more_before_last [] ys = omega arith
more_before_last (m ∷ xs) ys = more_after m xs ys

-- a later position's turn at a lock is no lower
turn_rises : {M : Type 0} (at : M → Option Mode) (ps : List M) (i j : ℕ) → i ≤ j → turn_by at ps i ≤ turn_by at ps j
turn_rises at ps i j le =
    let more : List Mode = filter_map at (take (j - i) (drop (i + 1) ps)) in
    let sum : (i + 1) + (j - i) ≡ j + 1 = omega (arith, le) in
    let split : filter_map at (take (j + 1) ps) ≡ filter_map at (take (i + 1) ps) ++ more =
    ap (λ n. filter_map at (take n ps)) (sym sum) ∙ (ap (filter_map at) (take-add (i + 1) (j - i) ps) ∙ filter_map-append at (take (i + 1) ps) (take (j - i) (drop (i + 1) ps))) in
    subst (λ (l : List Mode). groups_before_last (filter_map at (take (i + 1) ps)) ≤ groups_before_last l) (sym split) (more_before_last (filter_map at (take (i + 1) ps)) more)

-- ---- holders

some_is : {A : Type 0} (x y : A) → Some x ≡ Some y → x ≡ y
some_is x y e = cc e

-- a hold has the turn that every entry has
turn_of_hold : (turn : Lock → ℕ) (lock : Lock) (es : List Entry) (h : Mode × ℕ) → AllByRecursion (λ (e : Entry). e.turn ≡ turn e.lock) es → hold_in lock es ≡ Some h → h.1 ≡ turn lock
turn_of_hold turn lock [] h all e = absurd (cc e)
turn_of_hold turn lock (x ∷ es) h all e = by (eq_by_cmp lock_cmp lock x.lock) refl (turn_of_hold turn lock es h all.1) e
  where
    by : (b : Bool) → eq_by_cmp lock_cmp lock x.lock ≡ b → (hold_in lock es ≡ Some h → h.1 ≡ turn lock) → cond b (Some (x.mode, x.turn)) (hold_in lock es) ≡ Some h → h.1 ≡ turn lock
    by true is rest e =
        let found : (x.mode, x.turn) ≡ h = some_is (x.mode, x.turn) h e in
        sym (ap (λ (k : Mode × ℕ). k.1) found) ∙ (all.0 ∙ ap turn (sym (lock_is lock x.lock is)))
    by false is rest e = rest e

module _ (profiles : List (List Entry)) (have : HaveTurns profiles) where
  pub its_turn : (i : ℕ) (lock : Lock) (m : Mode) (t : ℕ) → Holds profiles i lock m t → t ≡ turn_by (mode_in lock) profiles i
  its_turn i lock m t h = turn_of_hold (λ l. turn_by (mode_in l) profiles i) lock h.profile (m, t) (have i h.profile h.there) h.held

  pub forward : AreForward profiles
  forward i j e =
      let a = its_turn i e.lock e.first e.turn e.holds_first in
      let b = its_turn j e.lock e.second (e.turn + 1) e.holds_second in
      elim (cases_lt i j) [
        | inl lt ↦ lt
        | inr ge ↦ let c = turn_rises (mode_in e.lock) profiles j i ge in absurd (omega (arith, a, b, c))
      ]
