-- What the type of a journal keeps, at each event.
use Rattle.std.proofs.Common.{◌≡◌, ◌≢◌, ◌∙◌, ◌<◌, ◌^◌, ◌||◌, ⊎_elim, ℕ, List, [], ◌∷◌, ◌++◌, set, refl, sym, ap, subst, true, false, eqb, map, length, arith, Some, slice_get}
use Rattle.std.specs.List.{AllByRecursion, list_any, IsDistinct}
use Rattle.std.proofs.lemmas.Bool.{false≢true, eqb-true}
use Rattle.std.proofs.lemmas.Bool.Decides.{eqb_tells}
use Rattle.std.proofs.lemmas.List.{length-map, length-set}
use Rattle.std.proofs.lemmas.Map.Steps.{length-le_from_distinct_below}
use Rattle.std.proofs.lemmas.Option.{slice_get_within}
use Rattle.spec_ledger.specs.declared.TraceStep.{TraceStep}
use Rattle.spec_ledger.specs.declared.Outcome.{Outcome}
use Rattle.spec_ledger.specs.Book.{AreDistinct, CommittedCall, call_is_new}
use Rattle.spec_ledger.specs.Modes.{touched}
use Rattle.spec_ledger.proofs.Kept.{All-join, AreDistinct-push}
use Rattle.spec_ledger.proofs.Traces.{All-weaken}
use Rattle.sharding.specs.declared.journal.CallState.{CallState}
use Rattle.sharding.specs.declared.journal.CallState.TheVariants.{Committed}
use Rattle.sharding.specs.Journals.{IsJournal, Journal, entry_with}
use Rattle.sharding.proofs.Standings.{set_other, set_same, set_tells}

-- what an entry is
pub entry_is : (e : CommittedCall) (call : ℕ) (trace : List TraceStep) (outcome : Outcome) → e.call ≡ call → e.trace ≡ trace → e.outcome ≡ outcome → e.modes ≡ touched trace → e ≡ entry_with call trace outcome
entry_is e call trace outcome a b c d = λ k. record { call = a k; trace = b k; outcome = c k; modes = d k }

module _ (j : Journal) (keeps : IsJournal j) where
  -- a call that does not stand committed has no entry
  pub uncommitted : (call : ℕ) → slice_get j.standings call ≢ Some Committed → call_is_new call j.entries
  uncommitted call other = All-weaken (λ e. slice_get j.standings e.call ≡ Some Committed) (λ e. e.call ≢ call) (λ e h same. other (ap (slice_get j.standings) (sym same) ∙ h)) j.entries keeps.committed

  module _ (call : ℕ) (x : CallState) (there : slice_get j.standings call ≡ Some x) (other : x ≢ Committed) where
    not_committed : slice_get j.standings call ≢ Some Committed
    not_committed h = other (let same : Some x ≡ Some Committed = sym there ∙ h in cc)

    pub new_here : call_is_new call j.entries
    new_here = uncommitted call not_committed

    others_stand : (v : CallState) → AllByRecursion (λ e. slice_get (set j.standings call v) e.call ≡ Some Committed) j.entries
    others_stand v = All-weaken (λ e. slice_get j.standings e.call ≡ Some Committed) (λ e. slice_get (set j.standings call v) e.call ≡ Some Committed)
        (λ e h. set_other j.standings call e.call v (λ same. not_committed (ap (slice_get j.standings) (sym same) ∙ h)) ∙ h) j.entries keeps.committed

    last_is_not_new : (k : ℕ) (e : CommittedCall) (es : List CommittedCall) → k ≡ e.call → ¬ (call_is_new k (es ++ e ∷ []))
    last_is_not_new k e [] same h = h.0 (sym same)
    last_is_not_new k e (f ∷ es) same h = last_is_not_new k e es same h.1

    left_new : (k : ℕ) (e : CommittedCall) (es : List CommittedCall) → call_is_new k (es ++ e ∷ []) → call_is_new k es
    left_new k e [] h = tt
    left_new k e (f ∷ es) h = (h.0, left_new k e es h.1)

    -- the call is committed
    pub keeps_commit : (trace : List TraceStep) (outcome : Outcome) → IsJournal (record { entries = j.entries ++ entry_with call trace outcome ∷ []; standings = set j.standings call Committed; begun = j.begun })
    keeps_commit trace outcome =
        let e = entry_with call trace outcome in
        record {
          distinct = AreDistinct-push j.entries e keeps.distinct new_here;
          modes = All-join (λ f. f.modes ≡ touched f.trace) j.entries (e ∷ []) keeps.modes (refl, tt);
          committed = All-join (λ f. slice_get (set j.standings call Committed) f.call ≡ Some Committed) j.entries (e ∷ []) (others_stand Committed) (set_same j.standings call Committed x there, tt);
          only = λ k h. ⊎_elim (λ d. last_is_not_new k e j.entries d.0) (λ d new. keeps.only k d (left_new k e j.entries new)) (set_tells j.standings call k Committed Committed h);
          calls = keeps.calls ∙ sym (length-set j.standings call Committed);
          fits = keeps.fits;
        }

-- ---- how many entries there are

call_below : (q : ℕ) (es : List CommittedCall) (standings : List CallState) → AllByRecursion (λ e. slice_get standings e.call ≡ Some Committed) es → list_any (eqb q) (map (λ (e : CommittedCall). e.call) es) ≡ true → q < length standings
call_below q [] standings h e = absurd (false≢true e)
call_below q (x ∷ es) standings h e =
    elim (eqb q x.call) as (λ b. eqb q x.call ≡ b → (b || list_any (eqb q) (map (λ (e : CommittedCall). e.call) es)) ≡ true → q < length standings) [
      | true ↦ λ t _. subst (λ y. y < length standings) (sym (eqb-true q x.call t)) (slice_get_within standings x.call Committed h.0)
      | false ↦ λ _ r. call_below q es standings h.1 r
    ] refl e

apart_tells : (x y : ℕ) → y ≢ x → eqb x y ≡ false
apart_tells x y ne = ⊎_elim (λ h. absurd (ne (sym h.1))) (λ h. h.0) (eqb_tells x y)

calls_apart : (x : ℕ) (es : List CommittedCall) → call_is_new x es → AllByRecursion (λ y. eqb x y ≡ false) (map (λ (e : CommittedCall). e.call) es)
calls_apart x [] h = tt
calls_apart x (e ∷ es) h = (apart_tells x e.call h.0, calls_apart x es h.1)

distinct_calls : (es : List CommittedCall) → AreDistinct es → IsDistinct eqb (map (λ (e : CommittedCall). e.call) es)
unfolding IsDistinct
distinct_calls [] h = tt
distinct_calls (e ∷ es) h = (calls_apart e.call es h.0, distinct_calls es h.1)

-- a position fits 32 bits
pub few_entries : (j : Journal) → IsJournal j → length j.entries < 2 ^ 32
few_entries j keeps =
    let most = length-le_from_distinct_below (map (λ (e : CommittedCall). e.call) j.entries) (length j.standings) (distinct_calls j.entries keeps.distinct) (λ q e. call_below q j.entries j.standings keeps.committed e) in
    let same : length (map (λ (e : CommittedCall). e.call) j.entries) ≡ length j.entries = simp length-map in
    let calls = keeps.calls in
    let fits = keeps.fits in
    omega (arith, most, same, calls, fits)
