-- Several turns, one after another.
use Rattle.std.proofs.Common.{◌≡◌, ◌≢◌, ℕ, ◌+◌, ◌<◌, ◌≤◌, List, [], ◌∷◌, length, true, refl, subst, arith}
use Rattle.std.specs.Prelude.{◌==◌}
use Rattle.std.proofs.lemmas.Bool.{eqb-true}
use Rattle.spec_execution.specs.Configuration.{Contract}
use Rattle.laws_reduction.specs.Meaning.{View, IsOrdered, IsSafeAt, Charged, Settles}
use Rattle.laws_reduction.specs.Rest.{Frees_join}
use Rattle.interp_steps.specs.StraightLine.{Walks, none, one_more, IsSafeFor}

pub walks_join : (c : Contract) (u v w : View) (m n : ℕ) → Walks c u m v → Walks c v n w → Walks c u (m + n) w
walks_join c u v w m n f (none x) = subst (λ (k : ℕ). Walks c u k v) (omega arith) f
walks_join c u v w m n f (one_more x k y j g some h) = subst (λ (i : ℕ). Walks c u i y) (let e : (m + j) + 1 ≡ m + (j + 1) = omega arith in e) (one_more u k y (m + j) (walks_join c u v k m j f g) some h)

pub walks_once : (c : Contract) (v w : View) → v.code ≢ [] → Charged c v w → Walks c v 1 w
walks_once c v w some h = one_more v v w 0 (none v) some h

pub walks_ordered : (c : Contract) (v w : View) (n : ℕ) → Walks c v n w → 0 < n → IsOrdered w
walks_ordered c v w n (none x) lt = absurd (omega (arith, lt))
walks_ordered c v w n (one_more x m y j g some h) lt = h.ordered

-- the last turn with what is left at its end
pub walks_settled : (c : Contract) (v w t : View) (n : ℕ) → Walks c v n w → v.code ≢ [] → w.code ≡ [] → Settles c w t → Walks c v n t
walks_settled c v w t n (none x) some at_end s = absurd (some at_end)
walks_settled c v w t n (one_more x m y j g here h) some at_end s = one_more x m t j g here (record { middle = h.middle; reduces = h.reduces; frees = Frees_join c _ _ _ h.frees s.frees; ordered = s.ordered })

pub safe_now : (c : Contract) (v : View) (most : ℕ) → IsSafeFor c v most → 0 < most → v.code ≢ [] → IsSafeAt c v
safe_now c v most safe lt some = safe 0 v lt (none v) some

pub safe_after : (c : Contract) (u v : View) (most m left : ℕ) → IsSafeFor c u most → Walks c u m v → m + left ≤ most → IsSafeFor c v left
safe_after c u v most m left safe f le n w lt g some = safe (m + n) w (omega (arith, lt, le)) (walks_join c u v w m n f g) some

pub nothing_left : {X : Type 0} (xs : List X) → (length xs == 0) ≡ true → xs ≡ []
nothing_left [] e = refl
nothing_left (x ∷ xs) e = absurd (let none : length (x ∷ xs) ≡ 0 = eqb-true (length (x ∷ xs)) 0 e in omega (arith, none))
