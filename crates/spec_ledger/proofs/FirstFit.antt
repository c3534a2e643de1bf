-- The list's order is admissible, and it grows at its end where the list does.
use Rattle.std.proofs.Common.{◌≡◌, inl, inr, ℕ, zero, suc, ◌+◌, ◌-◌, ◌<◌, ◌≤◌, Bool, true, false, List, [], ◌∷◌, ◌++◌, length, take, drop, get_or, map, Some, slice_get, slice_index, refl, sym, ◌∙◌, ap, subst, arith, append-nil, get_or-take, length-take-le, take-append-drop, drop-cons}
use Rattle.std.specs.Prelude.{Contains, ◌↔◌, nat_le, if◌then◌else◌}
use Rattle.std.specs.List.Sorted.{IsStrictlyIncreasing}
use Rattle.std.proofs.lemmas.Bool.{cases_lt}
use Rattle.std.proofs.lemmas.Bool.Decides.{leb_tells}
use Rattle.std.proofs.lemmas.List.{get_or_default, take_more}
use Rattle.std.proofs.lemmas.List.Elements.{Contains-append_right, Contains-append_cases}
use Rattle.std.proofs.lemmas.List.Sums.{sum_by-cons}
use Rattle.std.proofs.lemmas.Option.{slice_get_within, get_or_from_slice_get}
use Rattle.spec_ledger.specs.Order.{limits_of, IsAdmissible, first_fit, first_fit_from}

-- the fuel that calls with these limits leave
abbrev pub left_by : List ℕ → ℕ → ℕ
left_by [] fuel = fuel
left_by (limit ∷ limits) fuel = if nat_le limit fuel then left_by limits (fuel - limit) else left_by limits fuel

-- the first call joins, or it does not
cases : (P : List ℕ → ℕ → Type 0) (call limit : ℕ) (limits : List ℕ) (fuel : ℕ) → (limit ≤ fuel → P (call ∷ first_fit_from (call + 1) limits (fuel - limit)) (left_by limits (fuel - limit)))
    → (fuel < limit → P (first_fit_from (call + 1) limits fuel) (left_by limits fuel)) → P (first_fit_from call (limit ∷ limits) fuel) (left_by (limit ∷ limits) fuel)
cases P call limit limits fuel joins not = elim (leb_tells limit fuel) [
  | inl y ↦ subst (λ (b : Bool). P (if b then call ∷ first_fit_from (call + 1) limits (fuel - limit) else first_fit_from (call + 1) limits fuel) (if b then left_by limits (fuel - limit) else left_by limits fuel)) (sym y.0) (joins y.1)
  | inr z ↦ subst (λ (b : Bool). P (if b then call ∷ first_fit_from (call + 1) limits (fuel - limit) else first_fit_from (call + 1) limits fuel) (if b then left_by limits (fuel - limit) else left_by limits fuel)) (sym z.0) (not z.1)
]

-- ---- numbers

-- all numbers of an order are within these bounds
abbrev AreWithin : ℕ → ℕ → List ℕ → Type 0
AreWithin low high order = (p d : ℕ) → p < length order → (low ≤ get_or order p d) × (get_or order p d < high)

wider : (low next high : ℕ) (order : List ℕ) → low ≤ next → AreWithin next high order → AreWithin low high order
wider low next high order le are p d lt = let w = are p d lt in (let a = w.0 in omega (arith, a, le), w.1)

onto : (call high : ℕ) (order : List ℕ) → call < high → AreWithin (call + 1) high order → AreWithin call high (call ∷ order)
onto call high order below are zero d lt = (omega arith, below)
onto call high order below are (suc p) d lt = let w = are p d (omega (arith, lt)) in (let a = w.0 in omega (arith, a), w.1)

within : (call : ℕ) (limits : List ℕ) (fuel : ℕ) → AreWithin call (call + length limits) (first_fit_from call limits fuel)
within call [] fuel = λ p d lt. absurd (omega (arith, lt))
within call (limit ∷ limits) fuel =
    let high : call + 1 + length limits ≡ call + length (limit ∷ limits) = omega arith in
    cases (λ order left. AreWithin call (call + length (limit ∷ limits)) order) call limit limits fuel
    (λ fits. onto call (call + length (limit ∷ limits)) _ (omega arith) (subst (λ h. AreWithin (call + 1) h (first_fit_from (call + 1) limits (fuel - limit))) high (within (call + 1) limits (fuel - limit))))
    (λ over. wider call (call + 1) (call + length (limit ∷ limits)) _ (omega arith) (subst (λ h. AreWithin (call + 1) h (first_fit_from (call + 1) limits fuel)) high (within (call + 1) limits fuel)))

in_bounds : (low high c : ℕ) (order : List ℕ) → AreWithin low high order → Contains order c → (low ≤ c) × (c < high)
in_bounds low high c order are h = let w = are h.0 c h.1 in (subst (λ x. low ≤ x) h.2 w.0, subst (λ x. x < high) h.2 w.1)

rises : (call : ℕ) (order : List ℕ) → ((p d : ℕ) → p < length order → call + 1 ≤ get_or order p d) → IsStrictlyIncreasing order → IsStrictlyIncreasing (call ∷ order)
rises call order above rising zero lt = let a = above 0 0 (omega (arith, lt)) in omega (arith, a)
rises call order above rising (suc k) lt =
    let on : suc (k + 1) ≡ suc k + 1 = omega arith in subst (λ j. slice_index order k < slice_index (call ∷ order) j) on (rising k (omega (arith, lt)))

rising_from : (call : ℕ) (limits : List ℕ) (fuel : ℕ) → IsStrictlyIncreasing (first_fit_from call limits fuel)
rising_from call [] fuel = λ k lt. absurd (omega (arith, lt))
rising_from call (limit ∷ limits) fuel =
    cases (λ order left. IsStrictlyIncreasing order) call limit limits fuel
    (λ fits. rises call _ (λ p d lt. (within (call + 1) limits (fuel - limit) p d lt).0) (rising_from (call + 1) limits (fuel - limit)))
    (λ over. rising_from (call + 1) limits fuel)

climbs : (order : List ℕ) → IsStrictlyIncreasing order → (i j : ℕ) → i < j → j < length order → slice_index order i < slice_index order j
climbs order rising i zero lt below = absurd (omega (arith, lt))
climbs order rising i (suc j) lt below =
    let last : slice_index order j < slice_index order (suc j) = (let on : j + 1 ≡ suc j = omega arith in subst (λ k. slice_index order j < slice_index order k) on (rising j (omega (arith, below)))) in
    elim (cases_lt i j) [
      | inl less ↦ (let first = climbs order rising i j less (omega (arith, below)) in omega (arith, first, last))
      | inr ge ↦ (let same : i ≡ j = omega (arith, lt, ge) in subst (λ k. slice_index order k < slice_index order (suc j)) (sym same) last)
    ]

distinct : (order : List ℕ) → IsStrictlyIncreasing order → (position call : ℕ) → slice_get order position ≡ Some call → ¬ (Contains (take position order) call)
distinct order rising position call at before =
    let in_order = slice_get_within order position call at in
    let short = length-take-le position order (omega (arith, in_order)) in
    let earlier : before.0 < position = let lt = before.1 in omega (arith, lt, short) in
    let first : slice_index order before.0 ≡ call =
    get_or_default order before.0 0 call (omega (arith, earlier, in_order)) ∙ sym (get_or-take position order before.0 call earlier) ∙ before.2 in
    let second : slice_index order position ≡ call = get_or_from_slice_get order position call 0 at in
    let up = climbs order rising before.0 position earlier in_order in
    absurd (omega (arith, first, second, up))

-- ---- fuel

limits_of-cons : (limits order : List ℕ) (n : ℕ) → limits_of limits (n ∷ order) ≡ slice_index limits n + limits_of limits order
limits_of-cons limits order n = sum_by-cons (λ x. x) (slice_index limits n) (map (λ call. slice_index limits call) order)

-- from a number on, the limits are these
abbrev AreFrom : List ℕ → ℕ → List ℕ → Type 0
AreFrom all call limits = (i : ℕ) → i < length limits → slice_index all (call + i) ≡ slice_index limits i

from_next : (all : List ℕ) (call limit : ℕ) (limits : List ℕ) → AreFrom all call (limit ∷ limits) → AreFrom all (call + 1) limits
from_next all call limit limits are i lt = let on : call + 1 + i ≡ call + suc i = omega arith in ap (slice_index all) on ∙ are (suc i) (omega (arith, lt))

from_first : (all : List ℕ) (call limit : ℕ) (limits : List ℕ) → AreFrom all call (limit ∷ limits) → slice_index all call ≡ limit
from_first all call limit limits are = let on : call ≡ call + 0 = omega arith in ap (slice_index all) on ∙ are 0 (omega arith)

spent_and_left : (all : List ℕ) (call : ℕ) (limits : List ℕ) (fuel : ℕ) → AreFrom all call limits → limits_of all (first_fit_from call limits fuel) + left_by limits fuel ≡ fuel
spent_and_left all call [] fuel are = omega arith
spent_and_left all call (limit ∷ limits) fuel are =
    let next = from_next all call limit limits are in
    let first = from_first all call limit limits are in
    cases (λ order left. limits_of all order + left ≡ fuel) call limit limits fuel
    (λ fits. let rest = spent_and_left all (call + 1) limits (fuel - limit) next in let push = limits_of-cons all (first_fit_from (call + 1) limits (fuel - limit)) call in omega (arith, rest, push, first, fits))
    (λ over. spent_and_left all (call + 1) limits fuel next)

left_within : (limits : List ℕ) (fuel : ℕ) → left_by limits fuel ≤ fuel
left_within [] fuel = omega arith
left_within (limit ∷ limits) fuel =
    cases (λ order left. left ≤ fuel) 0 limit limits fuel (λ fits. let rest = left_within limits (fuel - limit) in omega (arith, rest)) (λ over. left_within limits fuel)

in_rest : (call c : ℕ) (order : List ℕ) → Contains order c → Contains (call ∷ order) c
in_rest call c order h = Contains-append_right (call ∷ []) order c h

none_fits : (call : ℕ) (limits : List ℕ) (fuel i : ℕ) → i < length limits → ¬ (Contains (first_fit_from call limits fuel) (call + i)) → left_by limits fuel < slice_index limits i
none_fits call [] fuel i lt = absurd (omega (arith, lt))
none_fits call (limit ∷ limits) fuel zero lt =
    cases (λ order left. ¬ (Contains order (call + 0)) → left < limit) call limit limits fuel
    (λ fits out. absurd (out (0, omega arith, omega arith)))
    (λ over out. let rest = left_within limits fuel in omega (arith, rest, over))
none_fits call (limit ∷ limits) fuel (suc i) lt =
    let on : call + 1 + i ≡ call + suc i = omega arith in
    cases (λ order left. ¬ (Contains order (call + suc i)) → left < slice_index limits i) call limit limits fuel
    (λ fits out. none_fits (call + 1) limits (fuel - limit) i (omega (arith, lt)) (λ h. out (in_rest call (call + suc i) _ (subst (Contains (first_fit_from (call + 1) limits (fuel - limit))) on h))))
    (λ over out. none_fits (call + 1) limits fuel i (omega (arith, lt)) (λ h. out (subst (Contains (first_fit_from (call + 1) limits fuel)) on h)))

own : (limits : List ℕ) → AreFrom limits 0 limits
own limits i lt = let on : 0 + i ≡ i = omega arith in ap (slice_index limits) on

-- ---- the laws

pub first_fit-rising : (limits : List ℕ) (fuel : ℕ) → IsStrictlyIncreasing (first_fit limits fuel)
first_fit-rising limits fuel = rising_from 0 limits fuel

pub first_fit-admissible : (limits : List ℕ) (fuel : ℕ) → IsAdmissible limits (first_fit limits fuel) fuel
first_fit-admissible limits fuel =
    let all = spent_and_left limits 0 limits fuel (own limits) in
    record {
      distinct = distinct (first_fit limits fuel) (first_fit-rising limits fuel);
      known = λ position call at.
          let there = slice_get_within (first_fit limits fuel) position call at in
          let is = get_or_from_slice_get (first_fit limits fuel) position call 0 at in
          let below = (within 0 limits fuel position 0 there).1 in
          omega (arith, is, below);
      within = omega (arith, all);
      no_room_left = λ call below new.
          let on : 0 + call ≡ call = omega arith in
          let over = none_fits 0 limits fuel call below (subst (λ c. ¬ (Contains (first_fit limits fuel) c)) (sym on) new) in
          omega (arith, all, over);
    }

-- the order of a list with more behind it
behind : (call : ℕ) (limits more : List ℕ) (fuel : ℕ) → first_fit_from call (limits ++ more) fuel ≡ first_fit_from call limits fuel ++ first_fit_from (call + length limits) more (left_by limits fuel)
behind call [] more fuel = let on : call ≡ call + 0 = omega arith in ap (λ c. first_fit_from c more fuel) on
behind call (limit ∷ limits) more fuel = by (λ f. behind (call + 1) limits more f) (nat_le limit fuel)
  where
    by : ((f : ℕ) → first_fit_from (call + 1) (limits ++ more) f ≡ first_fit_from (call + 1) limits f ++ first_fit_from (call + 1 + length limits) more (left_by limits f))
        → (b : Bool) → (if b then call ∷ first_fit_from (call + 1) (limits ++ more) (fuel - limit) else first_fit_from (call + 1) (limits ++ more) fuel)
        ≡ (if b then call ∷ first_fit_from (call + 1) limits (fuel - limit) else first_fit_from (call + 1) limits fuel)
        ++ first_fit_from (call + length (limit ∷ limits)) more (if b then left_by limits (fuel - limit) else left_by limits fuel)
    by further true = let on : call + 1 + length limits ≡ call + length (limit ∷ limits) = omega arith in
        ap (λ order. call ∷ order) (further (fuel - limit) ∙ ap (λ c. first_fit_from (call + 1) limits (fuel - limit) ++ first_fit_from c more (left_by limits (fuel - limit))) on)
    by further false = let on : call + 1 + length limits ≡ call + length (limit ∷ limits) = omega arith in
        further fuel ∙ ap (λ c. first_fit_from (call + 1) limits fuel ++ first_fit_from c more (left_by limits fuel)) on

module _ (limits : List ℕ) (fuel call : ℕ) (there : call < length limits) where
  -- the order of the calls before this one
  abbrev earlier : List ℕ
  earlier = first_fit (take call limits) fuel

  long : length (take call limits) ≡ call
  long = length-take-le call limits (omega (arith, there))

  -- what they leave
  left_is : left_by (take call limits) fuel ≡ fuel - limits_of limits earlier
  left_is =
      let all = spent_and_left limits 0 (take call limits) fuel (λ i lt. let at : i < call = omega (arith, lt, long) in let on : 0 + i ≡ i = omega arith in ap (slice_index limits) on ∙ sym (get_or-take call limits i 0 at)) in
      omega (arith, all)

  -- with it and more
  split : (more : List ℕ) → first_fit (take call limits ++ slice_index limits call ∷ more) fuel ≡ earlier ++ first_fit_from call (slice_index limits call ∷ more) (fuel - limits_of limits earlier)
  split more =
      let on : 0 + length (take call limits) ≡ call = omega (arith, long) in
      behind 0 (take call limits) (slice_index limits call ∷ more) fuel
      ∙ ap (λ c. earlier ++ first_fit_from c (slice_index limits call ∷ more) (left_by (take call limits) fuel)) on
      ∙ ap (λ f. earlier ++ first_fit_from call (slice_index limits call ∷ more) f) left_is

  -- one call more
  pub first_fit-grows : first_fit (take (call + 1) limits) fuel ≡ (if nat_le (slice_index limits call) (fuel - limits_of limits earlier) then earlier ++ call ∷ [] else earlier)
  first_fit-grows = ap (λ l. first_fit l fuel) (take_more limits call 0 there) ∙ split [] ∙ by (nat_le (slice_index limits call) (fuel - limits_of limits earlier))
    where
      by : (b : Bool) → earlier ++ (if b then call ∷ [] else []) ≡ (if b then earlier ++ call ∷ [] else earlier)
      by true = refl
      by false = append-nil earlier

  whole : first_fit limits fuel ≡ earlier ++ first_fit_from call (slice_index limits call ∷ drop (suc call) limits) (fuel - limits_of limits earlier)
  whole =
      ap (λ l. first_fit l fuel) (sym (take-append-drop call limits) ∙ ap (λ l. take call limits ++ l) (drop-cons limits call 0 there)) ∙ split (drop (suc call) limits)

  not_earlier : ¬ (Contains earlier call)
  not_earlier h = let b = (in_bounds 0 (0 + length (take call limits)) call earlier (within 0 (take call limits) fuel) h).1 in absurd (omega (arith, b, long))

  abbrev Joins : Type 0
  Joins = slice_index limits call ≤ fuel - limits_of limits earlier

  abbrev after : ℕ → List ℕ
  after f = first_fit_from (call + 1) (drop (suc call) limits) f

  not_after : (f : ℕ) → ¬ (Contains (after f) call)
  not_after f h = let b = (in_bounds (call + 1) (call + 1 + length (drop (suc call) limits)) call (after f) (within (call + 1) (drop (suc call) limits) f) h).0 in absurd (omega (arith, b))

  decided : Contains (first_fit_from call (slice_index limits call ∷ drop (suc call) limits) (fuel - limits_of limits earlier)) call ↔ Joins
  decided =
      cases (λ order left. Contains order call ↔ Joins) call (slice_index limits call) (drop (suc call) limits) (fuel - limits_of limits earlier)
      (λ fits. (λ h. fits, λ j. (0, omega arith, refl)))
      (λ over. (λ h. absurd (not_after _ h), λ j. absurd (omega (arith, over, j))))

  pub first_fit-joins : Contains (first_fit limits fuel) call ↔ Joins
  first_fit-joins = (
    λ h. elim (Contains-append_cases earlier _ call (subst (λ l. Contains l call) whole h)) [
      | inl before ↦ absurd (not_earlier before)
      | inr now ↦ decided.0 now
    ],
    λ j. subst (λ l. Contains l call) (sym whole) (Contains-append_right earlier _ call (decided.1 j)),
  )
