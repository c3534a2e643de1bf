-- A sweep from the empty order on leads to the list's order, given how that grows.
use Rattle.std.proofs.Common.{◌≡◌, inl, inr, ℕ, zero, suc, ◌+◌, ◌-◌, ◌<◌, ◌≤◌, Bool, List, [], ◌∷◌, ◌++◌, length, take, refl, sym, ◌∙◌, ap, subst, arith, take_all}
use Rattle.std.specs.Prelude.{Contains, slice_index, nat_le, if◌then◌else◌}
use Rattle.std.proofs.lemmas.Bool.Decides.{leb_tells}
use Rattle.std.proofs.lemmas.List.Elements.{Contains-push_cases}
use Rattle.spec_ledger.specs.Order.{limits_of, first_fit}
use Rattle.publish.specs.Publication.{Sweep, starts, takes, passes}

abbrev pub Grows : Type 0
Grows = (limits : List ℕ) (fuel call : ℕ) → call < length limits → first_fit (take (call + 1) limits) fuel
    ≡ (if nat_le (slice_index limits call) (fuel - limits_of limits (first_fit (take call limits) fuel)) then first_fit (take call limits) fuel ++ call ∷ [] else first_fit (take call limits) fuel)

pub then_is : (l f : ℕ) (x y : List ℕ) → l ≤ f → (if nat_le l f then x else y) ≡ x
then_is l f x y fits = elim (leb_tells l f) [
  | inl a ↦ ap (λ (b : Bool). if b then x else y) a.0
  | inr b ↦ absurd (let over = b.1 in omega (arith, over, fits))
]

pub else_is : (l f : ℕ) (x y : List ℕ) → f < l → (if nat_le l f then x else y) ≡ y
else_is l f x y over = elim (leb_tells l f) [
  | inl a ↦ absurd (let fits = a.1 in omega (arith, over, fits))
  | inr b ↦ ap (λ (b : Bool). if b then x else y) b.0
]

module _ (grows : Grows) (limits : List ℕ) (fuel : ℕ) where
  -- the order of the calls before this one
  abbrev earlier : ℕ → List ℕ
  earlier call = first_fit (take call limits) fuel

  abbrev left : List ℕ → ℕ
  left order = fuel - limits_of limits order

  takes_next : (call : ℕ) → call < length limits → slice_index limits call ≤ left (earlier call) → earlier (call + 1) ≡ earlier call ++ call ∷ []
  takes_next call lt fits = grows limits fuel call lt ∙ then_is (slice_index limits call) (left (earlier call)) (earlier call ++ call ∷ []) (earlier call) fits

  passes_next : (call : ℕ) → call < length limits → left (earlier call) < slice_index limits call → earlier (call + 1) ≡ earlier call
  passes_next call lt over = grows limits fuel call lt ∙ else_is (slice_index limits call) (left (earlier call)) (earlier call ++ call ∷ []) (earlier call) over

  -- a sweep has come to lower numbers alone
  not_yet : (n : ℕ) (now : List ℕ) → Sweep limits fuel [] n now → (k : ℕ) → n ≤ k → ¬ (Contains now k)
  not_yet n now starts k le h = let lt = h.1 in absurd (omega (arith, lt))
  not_yet n now (takes call before s room) k le h = elim (Contains-push_cases before call k h) [
    | inl earlier ↦ not_yet call before s k (omega (arith, le)) earlier
    | inr same ↦ absurd (omega (arith, same, le))
  ]
  not_yet n now (passes call _ s full) k le h = not_yet call now s k (omega (arith, le)) h

  so_far : (n : ℕ) (now : List ℕ) → Sweep limits fuel [] n now → n ≤ length limits → now ≡ earlier n
  so_far n now starts le = refl
  so_far n now (takes call before s room) le =
      let same = so_far call before s (omega (arith, le)) in
      let fits : slice_index limits call ≤ left (earlier call) = subst (λ order. slice_index limits call ≤ left order) same room.fits in
      ap (λ order. order ++ call ∷ []) same ∙ sym (takes_next call (omega (arith, le)) fits)
  so_far n now (passes call _ s full) le =
      let same = so_far call now s (omega (arith, le)) in
      elim (leb_tells (slice_index limits call) (left now)) [
        | inl a ↦ absurd (full (record { new = not_yet call now s call (omega arith); fits = a.1 }))
        | inr b ↦ same ∙ sym (passes_next call (omega (arith, le)) (subst (λ order. left order < slice_index limits call) same b.1))
      ]

  pub one : (order : List ℕ) → Sweep limits fuel [] (length limits) order → order ≡ first_fit limits fuel
  one order s = so_far (length limits) order s (omega arith) ∙ ap (λ l. first_fit l fuel) (take_all (length limits) limits (omega arith))

  swept : (n : ℕ) → n ≤ length limits → Sweep limits fuel [] n (earlier n)
  swept zero le = starts
  swept (suc n) le =
      let s = swept n (omega (arith, le)) in
      let on : n + 1 ≡ suc n = omega arith in
      subst (λ m. Sweep limits fuel [] m (earlier m)) on
      (elim (leb_tells (slice_index limits n) (left (earlier n))) [
        | inl a ↦ subst (Sweep limits fuel [] (n + 1)) (sym (takes_next n (omega (arith, le)) a.1)) (takes n (earlier n) s (record { new = not_yet n (earlier n) s n (omega arith); fits = a.1 }))
        | inr b ↦ subst (Sweep limits fuel [] (n + 1)) (sym (passes_next n (omega (arith, le)) b.1)) (passes n (earlier n) s (λ room. let fits = room.fits in let over = b.1 in absurd (omega (arith, fits, over))))
      ])

  pub there_is : Sweep limits fuel [] (length limits) (first_fit limits fuel)
  there_is = subst (Sweep limits fuel [] (length limits)) (ap (λ l. first_fit l fuel) (take_all (length limits) limits (omega arith))) (swept (length limits) (omega arith))
