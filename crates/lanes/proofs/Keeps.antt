-- Each step keeps the rule.
use Rattle.std.proofs.Common.{◌≡◌, ℕ, zero, suc, inl, inr, List, [], ◌∷◌, ◌++◌, set, sym, refl, ap, ◌∙◌, subst, Option, Some, None}
use Rattle.std.proofs.lemmas.List.Elements.{All-nil, All-cons, All-head, All-tail, All-push, All-set, All-same}
use Rattle.std.proofs.lemmas.Option.{none-some, same_Some}
use Rattle.std.specs.List.{All}
use mathlib.Core.Option.{some, some-injective, some-ne-none}
use lib.ListN.{get_elem?}
use Rattle.crossbeam_queue.specs.Fifo.{Pushes, Pops, Forks}
use Rattle.lanes.specs.declared.parcel.Parcel.{Parcel}
use Rattle.lanes.specs.declared.parcel.Parcel.TheVariants.{Key, Item}
use Rattle.lanes.specs.QueueRule.{Fits, FitsView, IsFounded, Agreed}

All-at : {X : Type 0} (P : X → Type 0) (xs : List X) (j : ℕ) (x : X) → get_elem? xs j ≡ some x → All P xs → P x
All-at P [] j x at all = absurd (some-ne-none x (sym at))
All-at P (y ∷ ys) zero x at all = subst P (some-injective y x at) (All-head P y ys all)
All-at P (y ∷ ys) (suc j) x at all = All-at P ys j x at (All-tail P y ys all)

All-one : {X : Type 0} (P : X → Type 0) (x : X) → P x → All P (x ∷ [])
All-one P x p = All-cons P x [] p (All-nil P)

module _ {K T : Type 0} (holds : K → T → Type 0) where
  pub begins : Agreed holds [] (None ∷ [])
  begins = inl (refl, refl)

  -- a pass that knows a key knows the one that all know
  founded : (parcels : List (Parcel K T)) (views : List (Option K)) (pass : ℕ) (key : K) → Agreed holds parcels views → get_elem? views pass ≡ some (Some key) → IsFounded holds key parcels views
  founded parcels views pass key (inl new) at = absurd (none-some key (sym (All-at (λ view. view ≡ None) views pass (Some key) at (All-same (λ view. view ≡ None) views (None ∷ []) new.1 (All-one (λ view. view ≡ None) None refl)))))
  founded parcels views pass key (inr old) at = subst (λ k. IsFounded holds k parcels views) (same_Some old.0 key (sym (All-at (λ view. view ≡ Some old.0) views pass (Some key) at old.1.1))) old.1

  -- the only pass is the first
  only : (pass : ℕ) (view : Option K) (key : K) → get_elem? (None ∷ []) pass ≡ some view → set (None ∷ []) pass (Some key) ≡ Some key ∷ []
  only zero view key at = refl
  only (suc pass) view key at = absurd (some-ne-none view (sym at))

  pub founds : (n pass : ℕ) (view : Option K) (key : K) → view ≡ None → Pushes (Agreed holds) n pass view (Key key) (λ after. after ≡ Some key)
  founds n pass view key nothing parcels views room (inl new) at =
      let views_then : set views pass (Some key) ≡ Some key ∷ [] = ap (λ vs. set vs pass (Some key)) new.1 ∙ only pass view key (ap (λ vs. get_elem? vs pass) (sym new.1) ∙ at) in
      let fits : All (Fits holds key) (parcels ++ Key key ∷ []) = All-push (Fits holds key) parcels (Key key) (All-same (Fits holds key) parcels [] new.0 (All-nil (Fits holds key))) refl in
      let knows : All (λ w. w ≡ Some key) (set views pass (Some key)) = All-same (λ w. w ≡ Some key) (set views pass (Some key)) (Some key ∷ []) views_then (All-one (λ w. w ≡ Some key) (Some key) refl) in
      (Some key, inr (key, (fits, knows)), refl)
  founds n pass view key nothing parcels views room (inr old) at = absurd (none-some old.0 (sym nothing ∙ All-at (λ w. w ≡ Some old.0) views pass view at old.1.1))

  pub gives : (n pass : ℕ) (view : Option K) (key : K) (item : T) → view ≡ Some key → holds key item → Pushes (Agreed holds) n pass view (Item item) (λ after. after ≡ view)
  gives n pass view key item knows fact parcels views room agreed at =
      let old = founded parcels views pass key agreed (at ∙ ap some knows) in
      (view, inr (key, (All-push (Fits holds key) parcels (Item item) old.0 fact, All-set (λ w. w ≡ Some key) views pass view knows old.1)), refl)

  pub takes : (pass : ℕ) (view : Option K) (key : K) → view ≡ Some key → Pops (Agreed holds) pass view (λ parcel after. (after ≡ view) × FitsView holds view parcel)
  takes pass view key knows parcel parcels views agreed at =
      let old = founded (parcel ∷ parcels) views pass key agreed (at ∙ ap some knows) in (
        view,
        inr (key, (All-tail (Fits holds key) parcel parcels old.0, All-set (λ w. w ≡ Some key) views pass view knows old.1)),
        (refl, λ k same. subst (λ j. Fits holds j parcel) (same_Some key k (sym knows ∙ same)) (All-head (Fits holds key) parcel parcels old.0)),
      )

  pub forks : (pass : ℕ) (view : Option K) (key : K) → view ≡ Some key → Forks (Agreed holds) pass view view view
  forks pass view key knows parcels views agreed at =
      let old = founded parcels views pass key agreed (at ∙ ap some knows) in
      let P = λ (w : Option K). w ≡ Some key in
      inr (key, (old.0, All-push P (set views pass view) view (All-set P views pass view knows old.1) knows))
