-- A sweep leaves out no call that had room.
use Rattle.std.proofs.Common.{◌≡◌, inl, inr, ℕ, ◌+◌, ◌-◌, ◌<◌, ◌≤◌, Bool, true, false, List, [], ◌∷◌, ◌++◌, length, refl, sym, ap, subst, arith}
use Rattle.std.specs.Prelude.{Contains, slice_index, ◌↔◌, IsTrue}
use Rattle.std.proofs.lemmas.Bool.Decides.{eqb_tells, leb_tells}
use Rattle.std.proofs.lemmas.List.{length-map}
use Rattle.std.proofs.lemmas.List.Elements.{Contains-append_left, Contains-push}
use Rattle.spec_ledger.specs.Order.{limits_of, IsAdmissible}
use Rattle.publish.specs.Publication.{Publication, limits, IsSerialOrder, HasRoom, MayFollow, HasTaken, HasGoneOn, Sweep, starts, takes, passes}
use Rattle.spec_execution.specs.Run.{ContractCall}
use Rattle.publish.proofs.Limits.{limits_of-push}
use Rattle.publish.proofs.Keeping.{gone_further}

module _ (limits : List ℕ) (fuel : ℕ) (order : List ℕ) where
  pub none_has_room : (n : ℕ) (now : List ℕ) → Sweep limits fuel order n now → (k : ℕ) → k < n → ¬ (Contains now k) → fuel - limits_of limits now < slice_index limits k
  none_has_room n now starts k below new = absurd (omega (arith, below))
  none_has_room n now (takes call before s room) k below new =
      let push = limits_of-push limits before call in
      elim (eqb_tells call k) [
        | inl y ↦ absurd (new (subst (Contains (before ++ call ∷ [])) y.1 (Contains-push before call)))
        | inr z ↦ let h = none_has_room call before s k (let ne = z.1 in omega arith) (λ is. new (Contains-append_left before (call ∷ []) k is)) in omega arith
      ]
  none_has_room n now (passes call _ s full) k below new =
      elim (eqb_tells call k) [
        | inl y ↦ (
            elim (leb_tells (slice_index limits k) (fuel - limits_of limits now)) [
              | inl fits ↦ absurd (full (record { new = subst (λ x. ¬ (Contains now x)) (sym y.1) new; fits = subst (λ x. slice_index limits x ≤ fuel - limits_of limits now) (sym y.1) fits.1 }))
              | inr over ↦ over.1
            ])
        | inr z ↦ none_has_room call now s k (let ne = z.1 in omega arith) new
      ]

length_limits : (calls : List ContractCall) → length (limits calls) ≡ length calls
length_limits calls = simp length-map

-- one call more of a sweep
pub swept_more : (p q r : Publication) (n : ℕ) (answer : Bool) → HasGoneOn p q → Sweep (limits p.calls) p.fuel p.order n q.order → n < length p.calls → IsTrue answer ↔ MayFollow q n → (answer ≡ true → HasTaken q n r) → (answer ≡ false → r ≡ q)
    → HasGoneOn p r × Sweep (limits p.calls) p.fuel p.order (n + 1) r.order
swept_more p q r n true g s below says taken left =
    let t = taken refl in
    let follows = says.0 refl in
    let room : HasRoom (limits p.calls) p.fuel q.order n = subst (λ c. HasRoom (limits c) p.fuel q.order n) g.same.calls (subst (λ f. HasRoom (limits q.calls) f q.order n) g.same.fuel follows.room) in (
      gone_further p q r n g t,
      subst (Sweep (limits p.calls) p.fuel p.order (n + 1)) (sym (ap (λ (x : Publication). x.order) t.is)) (takes n q.order s room),
    )
swept_more p q r n false g s below says taken left =
    let full : ¬ (HasRoom (limits p.calls) p.fuel q.order n) = λ room.
    absurd (let f : false ≡ true = says.1 (record {
      known = subst (λ c. n < length c) (sym g.same.calls) below;
      room = subst (λ c. HasRoom (limits c) q.fuel q.order n) (sym g.same.calls) (subst (λ f. HasRoom (limits p.calls) f q.order n) (sym g.same.fuel) room);
    }) in cc) in (
      subst (HasGoneOn p) (sym (left refl)) g,
      subst (Sweep (limits p.calls) p.fuel p.order (n + 1)) (sym (ap (λ (x : Publication). x.order) (left refl))) (passes n q.order s full),
    )

pub swept_admissible : (p q : Publication) (n : ℕ) → HasGoneOn p q → IsSerialOrder q → length p.calls ≤ n → Sweep (limits p.calls) p.fuel p.order n q.order → IsAdmissible (limits q.calls) q.order q.fuel
swept_admissible p q n g o all s =
    let here : Sweep (limits q.calls) q.fuel p.order n q.order = subst (λ c. Sweep (limits c) q.fuel p.order n q.order) (sym g.same.calls) (subst (λ f. Sweep (limits p.calls) f p.order n q.order) (sym g.same.fuel) s) in
    let same : length q.calls ≡ length p.calls = ap length g.same.calls in
    let l = length_limits q.calls in
    record {
      distinct = o.distinct;
      known = λ position call at. let k = o.known position call at in omega arith;
      within = o.within;
      no_room_left = λ call below new. none_has_room (limits q.calls) q.fuel p.order n q.order here call (omega arith) new;
    }
