-- The profiles of an order have the turns of their own modes.
use Rattle.std.proofs.Common.{◌≡◌, ℕ, zero, suc, ◌+◌, ◌<◌, cond, Option, Some, List, [], ◌∷◌, map, take, filter_map, length, get_or, refl, sym, ap, subst, ◌∙◌, arith}
use Rattle.std.specs.List.{AllByRecursion, cons_option}
use Rattle.std.specs.FinMap.{empty, entries, find, get, get-entries}
use Rattle.std.specs.Ordering.{eq_by_cmp}
use Rattle.std.proofs.lemmas.Option.{slice_get_within, get_or_from_slice_get}
use Rattle.spec_ledger.specs.declared.Lock.{Lock}
use Rattle.spec_ledger.specs.declared.Mode.{Mode}
use Rattle.spec_ledger.specs.declared.Entry.{Entry}
use Rattle.spec_ledger.specs.Cells.{lock_cmp}
use Rattle.spec_ledger.specs.Modes.{Modes}
use Rattle.spec_ledger.specs.Order.{turn_at, turn_by, groups_before_last}
use Rattle.lock_profile.specs.Turns.{AreTurns, profile_at, touched_at}
use Rattle.spec_block.specs.Verdicts.{mode_in, HasTurn}
use Rattle.spec_block.specs.Schedule.{HaveTurns}

module _ {A B : Type 0} (f : A → Option Mode) (g : B → Option Mode) where
  same_held : (xs : List A) (ys : List B) (d : A) (e : B) → length xs ≡ length ys → ((i : ℕ) → i < length ys → f (get_or xs i d) ≡ g (get_or ys i e)) → (n : ℕ) → filter_map f (take n xs) ≡ filter_map g (take n ys)
  same_held [] [] d e len same zero = refl
  same_held [] [] d e len same (suc n) = refl
  same_held [] (y ∷ ys) d e len same n = absurd (omega (arith, len))
  same_held (x ∷ xs) [] d e len same n = absurd (omega (arith, len))
  same_held (x ∷ xs) (y ∷ ys) d e len same zero = refl
  same_held (x ∷ xs) (y ∷ ys) d e len same (suc n) =
      let head : f x ≡ g y = same 0 (omega arith) in
      let rest : filter_map f (take n xs) ≡ filter_map g (take n ys) = same_held xs ys d e (omega (arith, len)) (λ i lt. same (suc i) (omega (arith, lt))) n in
      λ k. cons_option (head k) (rest k)

abbrev entry_at : (Lock → ℕ) → Lock × Mode → Entry
entry_at turn held = record { lock = held.0; mode = held.1; turn = turn held.0 }

mode_found : (turn : Lock → ℕ) (lock : Lock) (es : List (Lock × Mode)) → mode_in lock (map (entry_at turn) es) ≡ find lock_cmp lock es
mode_found turn lock [] = refl
mode_found turn lock (e ∷ es) = ap (λ (o : Option Mode). cond (eq_by_cmp lock_cmp lock e.0) (Some e.1) o) (mode_found turn lock es)

all_have : (profiles : List (List Entry)) (position : ℕ) (turn : Lock → ℕ) → ((lock : Lock) → turn lock ≡ turn_by (mode_in lock) profiles position) → (es : List (Lock × Mode)) → AllByRecursion (HasTurn profiles position) (map (entry_at turn) es)
all_have profiles position turn same [] = tt
all_have profiles position turn same (e ∷ es) = (same e.0, all_have profiles position turn same es)

pub turns_have : (touched : List Modes) (profiles : List (List Entry)) → AreTurns touched profiles → HaveTurns profiles
turns_have touched profiles are position profile there =
    let below : position < length touched = (let a = slice_get_within profiles position profile there in omega (arith, a, are.0)) in
    let is : profile ≡ profile_at touched position = sym (get_or_from_slice_get profiles position profile [] there) ∙ are.1 position below in
    let mode : (lock : Lock) (i : ℕ) → i < length touched → mode_in lock (get_or profiles i []) ≡ get (get_or touched i empty) lock =
    λ lock i lt. ap (mode_in lock) (are.1 i lt) ∙ (mode_found (turn_at touched i) lock (entries (touched_at touched i)) ∙ sym (get-entries (touched_at touched i) lock)) in
    let turn : (lock : Lock) → turn_at touched position lock ≡ turn_by (mode_in lock) profiles position =
    λ lock. ap groups_before_last (sym (same_held (mode_in lock) (λ (m : Modes). get m lock) profiles touched [] empty are.0 (mode lock) (position + 1))) in
    subst (AllByRecursion (HasTurn profiles position)) (sym is) (all_have profiles position (turn_at touched position) turn (entries (touched_at touched position)))
