-- The order of a list, and the calls that it leaves out, one call of the list more.
use Rattle.std.proofs.Common.{◌≡◌, inl, inr, ℕ, ◌+◌, ◌-◌, ◌<◌, ◌≤◌, List, [], ◌∷◌, ◌++◌, length, take, get_or, Some, slice_index, refl, sym, ◌∙◌, ap, subst, arith, length-take-le, take_all}
use Rattle.std.specs.Prelude.{Contains}
use Rattle.std.proofs.lemmas.Bool.Decides.{eqb_tells}
use Rattle.std.proofs.lemmas.List.Elements.{Contains-append_left, Contains-push, Contains-push_cases}
use Rattle.std.proofs.lemmas.List.Sums.{sum-map, sum_by_push}
use Rattle.std.proofs.lemmas.Option.{slice_get-get_or}
use Rattle.spec_ledger.specs.Order.{IsAdmissible, first_fit, limits_of}
use Rattle.spec_execution.specs.Run.{ContractCall}
use Rattle.serial.proofs.Limits.{limit_at}
use Rattle.publish.specs.Publication.{AreLeft, limits as limits_by}
use Rattle.publish.proofs.Marks.{rising_more}
use Rattle.publish.proofs.OneSweep.{Grows, then_is, else_is}

-- what `first_fit_is_admissible` says
abbrev pub IsSound : Type 0
IsSound = (limits : List ℕ) (fuel : ℕ) → IsAdmissible limits (first_fit limits fuel) fuel

-- the calls below a number have had their turn, and so much fuel remains
pub record HasFitted (limits : List ℕ) (fuel number remaining : ℕ) (order left : List ℕ) : Type 0 where
  pub order_is : order ≡ first_fit (take number limits) fuel
  pub rest : remaining + limits_of limits order ≡ fuel
  pub others : AreLeft order number left

none_left : AreLeft [] 0 []
none_left = record { rising = λ k h. absurd (omega (arith, h)); others = λ k. (λ h. absurd (let below = h.1 in omega arith), λ h. absurd (let l = h.0 in omega arith)) }

-- the next call joins
left_still : (order left : List ℕ) (n : ℕ) → AreLeft order n left → AreLeft (order ++ n ∷ []) (n + 1) left
left_still order left n l = record {
  rising = l.rising;
  others = λ k. (
    λ h.
        let was = (l.others k).0 h in
        let below = was.0 in
        (omega (arith, below), λ more. elim (Contains-push_cases order n k more) [ inl before ↦ was.1 before | inr here ↦ omega (arith, below, here) ]),
    λ h.
        elim (eqb_tells n k) [
          | inl y ↦ absurd (h.1 (subst (Contains (order ++ n ∷ [])) y.1 (Contains-push order n)))
          | inr z ↦ (l.others k).1 (let lt = h.0 in let ne = z.1 in omega arith, λ c. h.1 (Contains-append_left order (n ∷ []) k c))
        ],
  );
}

-- the next call does not join
left_more : (order left : List ℕ) (n : ℕ) → ¬ (Contains order n) → AreLeft order n left → AreLeft order (n + 1) (left ++ n ∷ [])
left_more order left n new l = record {
  rising = rising_more left n l.rising (λ k h. ((l.others k).0 h).0);
  others = λ k. (
    λ h.
        elim (Contains-push_cases left n k h) [
          | inl before ↦ (let lt = ((l.others k).0 before).0 in omega arith, ((l.others k).0 before).1)
          | inr here ↦ (omega arith, λ c. new (subst (Contains order) (sym here) c))
        ],
    λ h.
        elim (eqb_tells n k) [
          | inl y ↦ subst (Contains (left ++ n ∷ [])) y.1 (Contains-push left n)
          | inr z ↦ Contains-append_left left (n ∷ []) k ((l.others k).1 (let lt = h.0 in let ne = z.1 in omega arith, h.1))
        ],
  );
}

limits_of-push : (limits order : List ℕ) (n : ℕ) → limits_of limits (order ++ n ∷ []) ≡ limits_of limits order + slice_index limits n
limits_of-push limits order n =
    sum-map (λ c. slice_index limits c) (order ++ n ∷ []) ∙ sum_by_push (λ c. slice_index limits c) order n
    ∙ ap (λ s. s + slice_index limits n) (sym (sum-map (λ c. slice_index limits c) order))

pub begun : (limits : List ℕ) (fuel : ℕ) → HasFitted limits fuel 0 fuel [] []
begun limits fuel = record { order_is = refl; rest = omega arith; others = none_left }

module _ (sound : IsSound) (grows : Grows) (limits : List ℕ) (fuel n remaining : ℕ) (order left : List ℕ) (there : n < length limits) (so_far : HasFitted limits fuel n remaining order left) where
  abbrev earlier : List ℕ
  earlier = first_fit (take n limits) fuel

  room : fuel - limits_of limits earlier ≡ remaining
  room = ap (λ o. fuel - limits_of limits o) (sym so_far.order_is) ∙ (let rest = so_far.rest in omega (arith, rest))

  -- the order has lower numbers alone
  new : ¬ (Contains order n)
  new h =
      let among = subst (λ o. Contains o n) so_far.order_is h in
      let below = (sound (take n limits) fuel).known among.0 n (slice_get-get_or earlier among.0 n among.1 ∙ ap (λ x. Some x) among.2) in
      let short = length-take-le n limits (omega (arith, there)) in
      absurd (omega (arith, below, short))

  -- this call's limit, and what remains and stands after its turn
  module _ (limit rest_now : ℕ) (order_now left_now : List ℕ) (limit_is : slice_index limits n ≡ limit) where
    pub joins : limit ≤ remaining → rest_now ≡ remaining - limit → order_now ≡ order ++ n ∷ [] → left_now ≡ left → HasFitted limits fuel (n + 1) rest_now order_now left_now
    joins fits rest_is order_is left_is = record {
      order_is =
          order_is ∙ ap (λ o. o ++ n ∷ []) so_far.order_is
          ∙ sym (grows limits fuel n there ∙ then_is (slice_index limits n) (fuel - limits_of limits earlier) (earlier ++ n ∷ []) earlier (omega (arith, room, fits, limit_is)));
      rest =
          let push = ap (limits_of limits) order_is ∙ limits_of-push limits order n in
          let rest = so_far.rest in
          omega (arith, push, rest, rest_is, fits, limit_is);
      others = subst (λ (p : List ℕ × List ℕ). AreLeft p.0 (n + 1) p.1) (λ k. (sym order_is k, sym left_is k)) (left_still order left n so_far.others);
    }

    pub passes : remaining < limit → rest_now ≡ remaining → order_now ≡ order → left_now ≡ left ++ n ∷ [] → HasFitted limits fuel (n + 1) rest_now order_now left_now
    passes over rest_is order_is left_is = record {
      order_is =
          order_is ∙ so_far.order_is
          ∙ sym (grows limits fuel n there ∙ else_is (slice_index limits n) (fuel - limits_of limits earlier) (earlier ++ n ∷ []) earlier (omega (arith, room, over, limit_is)));
      rest = let same = ap (limits_of limits) order_is in let rest = so_far.rest in omega (arith, same, rest, rest_is);
      others = subst (λ (p : List ℕ × List ℕ). AreLeft p.0 (n + 1) p.1) (λ k. (sym order_is k, sym left_is k)) (left_more order left n new so_far.others);
    }

pub all_in_order : (limits : List ℕ) (fuel number remaining : ℕ) (order left : List ℕ) → number ≡ length limits → HasFitted limits fuel number remaining order left → order ≡ first_fit limits fuel
all_in_order limits fuel number remaining order left is fitted = fitted.order_is ∙ ap (λ l. first_fit l fuel) (take_all number limits (omega (arith, is)))

-- the limit of the call of this number
pub limit_of : (calls : List ContractCall) (n : ℕ) (call : ContractCall) → n < length calls → call ≡ get_or calls n call → slice_index (limits_by calls) n ≡ call.fuel
limit_of calls n call lt is = limit_at calls n call (slice_get-get_or calls n call lt ∙ ap (λ c. Some c) (sym is))
