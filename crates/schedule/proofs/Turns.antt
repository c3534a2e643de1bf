-- Turns rise along the order, and are small.
use Rattle.std.proofs.Common.{◌≡◌, ℕ, ◌+◌, ◌-◌, ◌<◌, ◌≤◌, ◌^◌, inl, inr, Bool, true, false, cond, List, [], ◌∷◌, ◌++◌, Option, Some, None, take, drop, filter_map, slice_get, length, sym, ap, subst, ◌∙◌, arith, take-add, zero, suc}
use Rattle.std.specs.List.{Contains, cons_option}
use Rattle.std.proofs.lemmas.Bool.{cases_lt}
use Rattle.std.proofs.lemmas.List.Elements.{filter_map-append, All-contains, All-from_recursion}
use Rattle.spec_ledger.specs.declared.Lock.{Lock}
use Rattle.spec_ledger.specs.declared.Mode.{Mode}
use Rattle.spec_ledger.specs.declared.Entry.{Entry}
use Rattle.spec_ledger.specs.Modes.{goes_with}
use Rattle.spec_ledger.specs.Order.{turn_by, groups_after, groups_before_last}
use Rattle.spec_block.specs.Verdicts.{mode_in, HasTurn}
use Rattle.spec_block.specs.Schedule.{Holds, IsEdge, HaveTurns}
use Rattle.schedule.proofs.Profiles.{found_at}

more_after : (before : Mode) (xs ys : List Mode) → groups_after before xs ≤ groups_after before (xs ++ ys)
more_after before [] ys = omega arith
more_after before (m ∷ xs) ys = let rest = more_after m xs ys in omega (arith, rest)

more_before_last : (xs ys : List Mode) → groups_before_last xs ≤ groups_before_last (xs ++ ys)
more_before_last [] ys = omega arith
more_before_last (m ∷ xs) ys = more_after m xs ys

one_at_most : (b : Bool) → cond b 0 1 ≤ 1
one_at_most true = omega arith
one_at_most false = omega arith

few_after : (before : Mode) (xs : List Mode) → groups_after before xs ≤ length xs
few_after before [] = omega arith
few_after before (m ∷ xs) = let one = one_at_most (goes_with before m) in let rest = few_after m xs in omega (arith, one, rest)

few_before_last : (xs : List Mode) → groups_before_last xs ≤ length xs
few_before_last [] = omega arith
few_before_last (m ∷ xs) = let rest = few_after m xs in omega (arith, rest)

module _ {M : Type 0} (at : M → Option Mode) where
  one_held : (o : Option Mode) (xs : List Mode) → length (cons_option o xs) ≤ length xs + 1
  one_held None xs = omega arith
  one_held (Some m) xs = omega arith

  few_held : (ps : List M) → length (filter_map at ps) ≤ length ps
  few_held [] = omega arith
  few_held (p ∷ ps) = let one = one_held (at p) (filter_map at ps) in let rest = few_held ps in omega (arith, one, rest)

  few_taken : (n : ℕ) (ps : List M) → length (take n ps) ≤ length ps
  few_taken zero ps = omega arith
  few_taken (suc n) [] = omega arith
  few_taken (suc n) (p ∷ ps) = let rest = few_taken n ps in omega (arith, rest)

  -- there are at most as many turns as positions
  turn-le : (ps : List M) (i : ℕ) → turn_by at ps i ≤ length ps
  turn-le ps i =
      let a = few_before_last (filter_map at (take (i + 1) ps)) in
      let b = few_held (take (i + 1) ps) in
      let c = few_taken (i + 1) ps in
      omega (arith, a, b, c)

  turn_rises : (ps : List M) (i j : ℕ) → i ≤ j → turn_by at ps i ≤ turn_by at ps j
  turn_rises ps i j le =
      let more : List Mode = filter_map at (take (j - i) (drop (i + 1) ps)) in
      let sum : (i + 1) + (j - i) ≡ j + 1 = omega (arith, le) in
      let split : filter_map at (take (j + 1) ps) ≡ filter_map at (take (i + 1) ps) ++ more =
      ap (λ n. filter_map at (take n ps)) (sym sum) ∙ (ap (filter_map at) (take-add (i + 1) (j - i) ps) ∙ filter_map-append at (take (i + 1) ps) (take (j - i) (drop (i + 1) ps))) in
      subst (λ (l : List Mode). groups_before_last (filter_map at (take (i + 1) ps)) ≤ groups_before_last l) (sym split) (more_before_last (filter_map at (take (i + 1) ps)) more)

module _ (profiles : List (List Entry)) (have : HaveTurns profiles) where
  turn_of_entry : (i : ℕ) (es : List Entry) → slice_get profiles i ≡ Some es → (e : Entry) → Contains es e → e.turn ≡ turn_by (mode_in e.lock) profiles i
  turn_of_entry i es there e c = All-contains (HasTurn profiles i) es e (All-from_recursion (HasTurn profiles i) es (have i es there)) c

  turn_of_hold : (i : ℕ) (lock : Lock) (m : Mode) (t : ℕ) → Holds profiles i lock m t → t ≡ turn_by (mode_in lock) profiles i
  turn_of_hold i lock m t h =
      let found = found_at lock h.profile (m, t) h.held in
      let its = turn_of_entry i h.profile h.there found.0 found.1 in
      sym (ap (λ q. q.turn) found.2) ∙ (its ∙ ap (λ q. turn_by (mode_in q.lock) profiles i) found.2)

  -- an edge goes forward
  pub forward : (i j : ℕ) → IsEdge profiles i j → i < j
  forward i j e =
      let a = turn_of_hold i e.lock e.first e.turn e.holds_first in
      let b = turn_of_hold j e.lock e.second (e.turn + 1) e.holds_second in
      elim (cases_lt i j) [
        | inl lt ↦ lt
        | inr ge ↦ let c = turn_rises (mode_in e.lock) profiles j i ge in absurd (omega (arith, a, b, c))
      ]

  -- turns are below the number of positions
  pub small_turns : length profiles < 2 ^ 16 → (i : ℕ) (es : List Entry) → slice_get profiles i ≡ Some es → (e : Entry) → Contains es e → e.turn < 2 ^ 16
  small_turns few i es there e c =
      let a = turn_of_entry i es there e c in
      let b = turn-le (mode_in e.lock) profiles i in
      omega (arith, few, a, b)
