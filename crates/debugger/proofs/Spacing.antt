-- How far apart the states stand that a session keeps.
use Rattle.std.proofs.Common.{◌≡◌, ℕ, zero, suc, ◌+◌, ◌*◌, ◌<◌, ◌≤◌, List, [], ◌∷◌, ◌++◌, length, take, drop, refl, sym, ap, ◌∙◌, subst, arith, inl, inr, suc-mul, zero-mul}
use Rattle.std.specs.Prelude.{◌⊎◌, All}
use Rattle.std.proofs.lemmas.List.Elements.{All-same, All-push, All-head, All-tail}
use Rattle.debugger.specs.declared.cursor.Cursor.{Cursor}
use Rattle.debugger.specs.declared.kept.Kept.{Kept}
use Rattle.debugger.specs.Commands.{AreFew}
use Rattle.debugger.specs.Keeping.{IsOfRun, AreSpaced, last_turns, AreKept, next_turns, IsNearest, IsKept}
use Rattle.debugger.proofs.Keeping.{at_within}

pub spaced_last : {A : Type 0} (d n : ℕ) (cs : List (Cursor A)) → AreSpaced d n cs → last_turns n cs ≡ n + length cs * d
spaced_last d n [] h = omega (arith, zero-mul d)
spaced_last d n (c ∷ cs) h = omega (arith, h.0, spaced_last d c.machine.used cs h.1, suc-mul (length cs) d)

-- ---- one state more

spaced_more : {A : Type 0} (d n : ℕ) (cs : List (Cursor A)) (c : Cursor A) → AreSpaced d n cs → c.machine.used ≡ last_turns n cs + d → AreSpaced d n (cs ++ c ∷ [])
spaced_more d n [] c h used = (used, tt)
spaced_more d n (b ∷ cs) c h used = (h.0, spaced_more d b.machine.used cs c h.1 used)

last_more : {A : Type 0} (n : ℕ) (cs : List (Cursor A)) (c : Cursor A) → last_turns n (cs ++ c ∷ []) ≡ c.machine.used
last_more n [] c = refl
last_more n (b ∷ cs) c = last_more b.machine.used cs c

-- ---- every other state

-- the first i of these states are spaced by twice the distance, and the others by the distance
abbrev pub AreHalved : {A : Type 0} → (d n i : ℕ) → List (Cursor A) → Type 0
AreHalved d n zero cs = AreSpaced d n cs
AreHalved d n (suc i) [] = ⊥
AreHalved d n (suc i) (c ∷ cs) = (c.machine.used ≡ n + 2 * d) × AreHalved d c.machine.used i cs

halved_more : {A : Type 0} (d n i : ℕ) (cs : List (Cursor A)) → AreHalved d n i cs → suc i < length cs → AreHalved d n (suc i) (take i cs ++ drop (suc i) cs)
halved_more d n zero [] h below = absurd (omega (arith, below))
halved_more d n zero (b ∷ []) h below = absurd (omega (arith, below))
halved_more d n zero (b ∷ c ∷ cs) h below = (omega (arith, h.0, h.1.0), h.1.1)
halved_more d n (suc i) [] h below = absurd (omega (arith, below))
halved_more d n (suc i) (c ∷ cs) h below = (h.0, halved_more d c.machine.used i cs h.1 (omega (arith, below)))

pub halved_next : {A : Type 0} (d i : ℕ) (cs ds : List (Cursor A)) → AreHalved d 0 i cs → suc i < length cs → ds ≡ take i cs ++ drop (suc i) cs → AreHalved d 0 (i + 1) ds
halved_next {A = A} d i cs ds h below is =
    subst (λ (xs : List (Cursor A)). AreHalved d 0 (i + 1) xs) (sym is)
    (subst (λ (j : ℕ). AreHalved d 0 j (take i cs ++ drop (suc i) cs)) (let e : suc i ≡ i + 1 = omega arith in e) (halved_more d 0 i cs h below))

pub halved_last : {A : Type 0} (n i : ℕ) (cs : List (Cursor A)) → suc i < length cs → last_turns n (take i cs ++ drop (suc i) cs) ≡ last_turns n cs
halved_last n zero [] below = absurd (omega (arith, below))
halved_last n zero (b ∷ []) below = absurd (omega (arith, below))
halved_last n zero (b ∷ c ∷ cs) below = refl
halved_last n (suc i) [] below = absurd (omega (arith, below))
halved_last n (suc i) (c ∷ cs) below = halved_last c.machine.used i cs (omega (arith, below))

pub halved_all : {A : Type 0} (d n i : ℕ) (cs : List (Cursor A)) → AreHalved d n i cs → length cs ≡ i → AreSpaced (2 * d) n cs
halved_all d n zero [] h all = tt
halved_all d n zero (c ∷ cs) h all = absurd (omega (arith, all))
halved_all d n (suc i) [] h all = absurd h
halved_all d n (suc i) (c ∷ cs) h all = (h.0, halved_all d c.machine.used i cs h.1 (omega (arith, all)))

-- ---- what is kept

module _ {A : Type 0} (here : Cursor A) (k : Kept A) (kept : AreKept here k) where
  pub kept_same : (j : Kept A) → j.cursors.items ≡ k.cursors.items → j.last ≡ k.last → j.distance ≡ k.distance → AreKept here j
  kept_same j items last distance = record {
    all = All-same (IsOfRun here) j.cursors.items k.cursors.items items kept.all;
    few = subst (λ (cs : List (Cursor A)). length cs ≤ 64) (sym items) kept.few;
    spaced = subst (λ (d : ℕ). AreSpaced d 0 j.cursors.items) (sym distance) (subst (AreSpaced k.distance 0) (sym items) kept.spaced);
    last_is = last ∙ kept.last_is ∙ sym (ap (last_turns 0) items);
    least = omega (arith, distance, kept.least);
    near = by_near kept.near;
  }
    where
      by_near : (k.distance ≡ 1024) ⊎ (32 * k.distance ≤ k.last) → (j.distance ≡ 1024) ⊎ (32 * j.distance ≤ j.last)
      by_near (inl h) = inl (distance ∙ h)
      by_near (inr h) = inr (omega (arith, h, distance, last))

  pub kept_more : (j : Kept A) (c : Cursor A) → IsOfRun here c → c.machine.used ≡ next_turns k
      → j.cursors.items ≡ k.cursors.items ++ c ∷ [] → j.last ≡ c.machine.used → j.distance ≡ k.distance → length j.cursors.items ≤ 64 → AreKept here j
  kept_more j c of_run used items last distance few = record {
    all = All-same (IsOfRun here) j.cursors.items (k.cursors.items ++ c ∷ []) items (All-push (IsOfRun here) k.cursors.items c kept.all of_run);
    few = few;
    spaced = subst (λ (d : ℕ). AreSpaced d 0 j.cursors.items) (sym distance) (subst (AreSpaced k.distance 0) (sym items)
        (spaced_more k.distance 0 k.cursors.items c kept.spaced (omega (arith, used, kept.last_is))));
    last_is = last ∙ sym (last_more 0 k.cursors.items c) ∙ sym (ap (last_turns 0) items);
    least = omega (arith, distance, kept.least);
    near = by_near kept.near;
  }
    where
      by_near : (k.distance ≡ 1024) ⊎ (32 * k.distance ≤ k.last) → (j.distance ≡ 1024) ⊎ (32 * j.distance ≤ j.last)
      by_near (inl h) = inl (distance ∙ h)
      by_near (inr h) = inr (omega (arith, h, distance, last, used))

  -- where 64 are kept, the last is after 64 distances
  pub last_full : length k.cursors.items ≡ 64 → k.last ≡ 64 * k.distance
  last_full full =
      let e : last_turns 0 k.cursors.items ≡ 0 + length k.cursors.items * k.distance = spaced_last k.distance 0 k.cursors.items kept.spaced in
      let s : length k.cursors.items * k.distance ≡ 64 * k.distance = ap (λ n. n * k.distance) full in
      omega (arith, kept.last_is, e, s)

  pub kept_half : (j : Kept A) → length k.cursors.items ≡ 64 → All (IsOfRun here) j.cursors.items → length j.cursors.items ≡ 32
      → last_turns 0 j.cursors.items ≡ last_turns 0 k.cursors.items → ((d : ℕ) → AreSpaced d 0 k.cursors.items → AreSpaced (2 * d) 0 j.cursors.items)
      → j.last ≡ k.last → j.distance ≡ 2 * k.distance → AreKept here j
  kept_half j full all half same spaced last distance = record {
    all = all;
    few = omega (arith, half);
    spaced = subst (λ (d : ℕ). AreSpaced d 0 j.cursors.items) (sym distance) (spaced k.distance kept.spaced);
    last_is = last ∙ kept.last_is ∙ sym same;
    least = omega (arith, distance, kept.least);
    near = inr (omega (arith, distance, last, last_full full));
  }

-- ---- the nearest

-- the last of others is that of rest, and where others are spaced from first on, rest is from best on
pub record AreRest {A : Type 0} (first best : Cursor A) (others rest : List (Cursor A)) : Type 0 where
  pub last : last_turns best.machine.used rest ≡ last_turns first.machine.used others
  pub spaced : (d : ℕ) → AreSpaced d first.machine.used others → AreSpaced d best.machine.used rest

pub rest_all : {A : Type 0} (first : Cursor A) (others : List (Cursor A)) → AreRest first first others others
rest_all first others = record { last = refl; spaced = λ d h. h }

pub rest_more : {A : Type 0} (first best c : Cursor A) (others rest : List (Cursor A)) → AreRest first best others (c ∷ rest) → AreRest first c others rest
rest_more first best c others rest h = record { last = h.last; spaced = λ d s. (h.spaced d s).1 }

-- the next state is after more turns
pub nearest_before : {A : Type 0} (first best c : Cursor A) (others rest : List (Cursor A)) (turns : ℕ) → AreRest first best others (c ∷ rest) → turns < c.machine.used → IsNearest first others turns best
nearest_before first best c others rest turns h less d s below = omega (arith, less, (h.spaced d s).0)

-- there is no next state
pub nearest_last : {A : Type 0} (first best : Cursor A) (others rest : List (Cursor A)) (turns : ℕ) → AreRest first best others rest → rest ≡ [] → IsNearest first others turns best
nearest_last first best others rest turns h none d s below = omega (arith, below, sym h.last ∙ ap (last_turns best.machine.used) none)

-- ---- how many turns are made again

within : {A : Type 0} (here c : Cursor A) → IsOfRun here c → c.machine.used ≤ here.machine.call.fuel
within here c h = omega (arith, at_within c h.at, ap (λ l. l.fuel) h.same.call.call)

last_within : {A : Type 0} (here : Cursor A) (n : ℕ) (cs : List (Cursor A)) → All (IsOfRun here) cs → n ≤ here.machine.call.fuel → last_turns n cs ≤ here.machine.call.fuel
last_within here n [] all less = less
last_within here n (c ∷ cs) all less = last_within here c.machine.used cs (All-tail (IsOfRun here) c cs all) (within here c (All-head (IsOfRun here) c cs all))

pub again_less : {A : Type 0} (origin here c : Cursor A) (k : Kept A) (turns again : ℕ) → IsKept origin here k → IsNearest origin k.cursors.items turns c → turns ≤ here.machine.used → c.machine.used + again ≡ turns → AreFew here.machine.call.fuel again
again_less origin here c k turns again kept near less is = by_near kept.kept.near
  where
    start : origin.machine.used ≡ 0
    start = omega (arith, kept.first.before)

    apart : again < k.distance
    apart =
        let h : turns < c.machine.used + k.distance = near k.distance (subst (λ (n : ℕ). AreSpaced k.distance n k.cursors.items) (sym start) kept.kept.spaced)
        (omega (arith, less, kept.reached, kept.kept.last_is, ap (λ (n : ℕ). last_turns n k.cursors.items) start)) in
        omega (arith, h, is)

    by_near : (k.distance ≡ 1024) ⊎ (32 * k.distance ≤ k.last) → AreFew here.machine.call.fuel again
    by_near (inl h) = inl (omega (arith, apart, h))
    by_near (inr h) = inr (omega (arith, apart, h, kept.kept.last_is, last_within here 0 k.cursors.items kept.kept.all (omega arith)))
