-- What is published, as the headline says it.
use Rattle.std.proofs.Common.{◌≡◌, ◌+◌, ◌≤◌, ⊎_elim, ℕ, false, List, [], ◌∷◌, length, take, map, Some, slice_get, Contains, refl, ap, ◌∙◌, arith}
use Prim.Native.Nat.{suc}
use lib.Dec.{eqb}
use Rattle.std.specs.List.{IsDistinct, AllByRecursion}
use Rattle.std.proofs.lemmas.Bool.{eqb-true}
use Rattle.std.proofs.lemmas.Bool.Decides.{eqb_tells}
use Rattle.std.proofs.lemmas.Map.Steps.{length-le_from_distinct_below}
use Rattle.std.proofs.lemmas.Map.Views.{Contains-from_any}
use Rattle.std.proofs.lemmas.Option.{slice_get-get_or, slice_get_within, get_or_from_slice_get}
use Rattle.spec_ledger.specs.declared.Version.{Version}
use Rattle.spec_ledger.specs.declared.Receipt.{Receipt}
use Rattle.spec_ledger.specs.Cells.{Cells}
use Rattle.spec_ledger.specs.Modes.{Modes}
use Rattle.spec_ledger.specs.Order.{IsAdmissible}
use Rattle.spec_block.specs.Worlds.{Call, World, Position, order_of}
use Rattle.spec_block.specs.Blocks.{all_touched, block_of, positions_from}
use Rattle.spec_block.specs.Headline.{IsLeft}
use Rattle.serial.specs.Positions.{results_of}
use Rattle.publish.specs.Publication.{AreLeft}

order_from : (all : List Modes) (place : ℕ) (order : List ℕ) (rs : List Receipt) (ms : List Modes) → length rs ≡ length order → length ms ≡ length order → map (λ (p : Position). p.call) (positions_from all place order (results_of rs ms)) ≡ order
order_from all place [] rs ms a b = refl
order_from all place (n ∷ order) [] ms a b = absurd (omega (arith, a))
order_from all place (n ∷ order) (r ∷ rs) [] a b = absurd (omega (arith, b))
order_from all place (n ∷ order) (r ∷ rs) (m ∷ ms) a b = ap (λ ns. n ∷ ns) (order_from all (place + 1) order rs ms (omega (arith, a)) (omega (arith, b)))

pub order_again : (version : Version) (world : World) (calls : List Call) (order : List ℕ) (rs : List Receipt) (ms : List Modes) (last : Cells)
    → length rs ≡ length order → length ms ≡ length order → order_of (block_of version world calls order (results_of rs ms) last) ≡ order
order_again version world calls order rs ms last = order_from (all_touched (results_of rs ms)) 0 order rs ms

pub left_is : (calls : List Call) (order left : List ℕ) → AreLeft order (length calls) left → IsLeft calls order left
left_is calls order left l = record {
  rising = λ i m n at next.
      let below = l.rising i (slice_get_within left (i + 1) n next) in
      omega (arith, get_or_from_slice_get left i m 0 at, get_or_from_slice_get left (i + 1) n 0 next, below);
  are = l.others;
}

-- a number that stands before, does not come again
abbrev Apart : List ℕ → Type 0
Apart xs = (position call : ℕ) → slice_get xs position ≡ Some call → ¬ (Contains (take position xs) call)

contains_more : (x y : ℕ) (xs : List ℕ) → Contains xs y → Contains (x ∷ xs) y
contains_more x y xs c = (suc c.0, omega (arith, c.1), c.2)

apart_from : (x : ℕ) (xs : List ℕ) → Apart (x ∷ xs) → Apart xs
apart_from x xs apart position call at within = apart (suc position) call at (contains_more x call (take position xs) within)

first_apart : (x : ℕ) (xs : List ℕ) → Apart (x ∷ xs) → (k : ℕ) (y : ℕ) → slice_get xs k ≡ Some y → eqb x y ≡ false
first_apart x xs apart k y at = ⊎_elim (λ same. absurd (apart (suc k) y at (0, omega arith, same.1))) (λ other. other.0) (eqb_tells x y)

all_by : (P : ℕ → Type 0) (xs : List ℕ) → ((k y : ℕ) → slice_get xs k ≡ Some y → P y) → AllByRecursion P xs
all_by P [] all = tt
all_by P (x ∷ xs) all = (all 0 x refl, all_by P xs (λ k y at. all (suc k) y at))

distinct : (xs : List ℕ) → Apart xs → IsDistinct eqb xs
unfolding IsDistinct
distinct [] apart = tt
distinct (x ∷ xs) apart = (all_by (λ y. eqb x y ≡ false) xs (first_apart x xs apart), distinct xs (apart_from x xs apart))

pub few : (limits order : List ℕ) (fuel : ℕ) → IsAdmissible limits order fuel → length order ≤ length limits
few limits order fuel a = length-le_from_distinct_below order (length limits) (distinct order a.distinct) (λ q among.
    let there = Contains-from_any eqb-true q order among in
    a.known there.0 q (slice_get-get_or order there.0 q there.1 ∙ ap (λ x. Some x) there.2))
