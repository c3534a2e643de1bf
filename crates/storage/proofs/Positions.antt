-- The counts of all positions, with one position's changes put in or taken out.
use Rattle.std.proofs.Common.{◌≡◌, ℕ, zero, suc, ◌<◌, List, [], ◌∷◌, ◌++◌, length, take, drop, get_or, set, replicate, refl, sym, ◌∙◌, ap, subst, arith}
use Rattle.std.proofs.lemmas.List.{take-append-drop}
use Rattle.std.specs.FinMap as finite
use Rattle.spec_ledger.specs.declared.Inverse.{Inverse}
use Rattle.storage.specs.Counts.{Counts, opened, opened_all, closed_all, AreUnsettled, AreCounts}
use Rattle.storage.proofs.Counted.{AreCounts-opened_all, AreCounts-empty, closed_all-opened_all, AreUnsettled-opened_all, opened_all_comm, opened_all-push}
use Rattle.storage.specs.Changing.{counts_of}

counts_late : (is : List Inverse) (ps : List (List Inverse)) (m : Counts) → counts_of ps (opened_all is m) ≡ opened_all is (counts_of ps m)
counts_late is [] m = refl
counts_late is (js ∷ ps) m = ap (counts_of ps) (opened_all_comm js is m) ∙ counts_late is ps (opened_all js m)

AreCounts-of : (ps : List (List Inverse)) (m : Counts) → AreCounts m → AreCounts (counts_of ps m)
AreCounts-of [] m are = are
AreCounts-of (is ∷ ps) m are = AreCounts-of ps (opened_all is m) (AreCounts-opened_all is m are)

counts_put : (ps : List (List Inverse)) (p : ℕ) (js : List Inverse) (m : Counts) → p < length ps → counts_of (set ps p js) m ≡ opened_all js (counts_of (set ps p []) m)
counts_put [] p js m lt = absurd (omega (arith, lt))
counts_put (is ∷ ps) zero js m lt = counts_late js ps m
counts_put (is ∷ ps) (suc p) js m lt = counts_put ps p js (opened_all is m) (omega (arith, lt))

counts_out : (ps : List (List Inverse)) (p : ℕ) (js : List Inverse) (m : Counts) → p < length ps → js ≡ get_or ps p js → counts_of ps m ≡ opened_all js (counts_of (set ps p []) m)
counts_out [] p js m lt at = absurd (omega (arith, lt))
counts_out (is ∷ ps) zero js m lt at = counts_late is ps m ∙ ap (λ x. opened_all x (counts_of ps m)) (sym at)
counts_out (is ∷ ps) (suc p) js m lt at = counts_out ps p js (opened_all is m) (omega (arith, lt)) at

-- one inverse more of a position
pub counts_push : (ps : List (List Inverse)) (p : ℕ) (js : List Inverse) (i : Inverse) (m : Counts) → p < length ps → js ≡ get_or ps p js → counts_of (set ps p (js ++ i ∷ [])) m ≡ opened i (counts_of ps m)
counts_push ps p js i m lt at =
    counts_put ps p (js ++ i ∷ []) m lt ∙ opened_all-push js i (counts_of (set ps p []) m) ∙ ap (opened i) (sym (counts_out ps p js m lt at))

opened_all-append : (is js : List Inverse) (m : Counts) → opened_all (is ++ js) m ≡ opened_all js (opened_all is m)
opened_all-append [] js m = refl
opened_all-append (i ∷ is) js m = opened_all-append is js (opened i m)

-- one position's changes may be closed, and what is left are the others
module _ (ps : List (List Inverse)) (p : ℕ) (js : List Inverse) (counts : Counts) (is : counts ≡ counts_of ps finite.empty) (lt : p < length ps) (at : js ≡ get_or ps p js) where
  abbrev others : Counts
  others = counts_of (set ps p []) finite.empty

  are : AreCounts others
  are = AreCounts-of (set ps p []) finite.empty AreCounts-empty

  pub may_end : AreUnsettled js counts
  may_end = subst (AreUnsettled js) (sym (is ∙ counts_out ps p js finite.empty lt at)) (AreUnsettled-opened_all js others are)

  pub ended : closed_all js counts ≡ counts_of (set ps p []) finite.empty
  ended = ap (closed_all js) (is ∙ counts_out ps p js finite.empty lt at) ∙ closed_all-opened_all js others are

  -- the last of them are closed, and the first ones are left
  pub taken_back : (n : ℕ) → closed_all (drop n js) counts ≡ counts_of (set ps p (take n js)) finite.empty
  taken_back n =
      ap (closed_all (drop n js)) (is ∙ counts_out ps p js finite.empty lt at ∙ ap (λ x. opened_all x others) (sym (take-append-drop n js)) ∙ opened_all-append (take n js) (drop n js) others)
      ∙ closed_all-opened_all (drop n js) (opened_all (take n js) others) (AreCounts-opened_all (take n js) others are)
      ∙ sym (counts_put ps p (take n js) finite.empty lt)

-- no changes at all
pub counts_none : (n : ℕ) (m : Counts) → counts_of (replicate n []) m ≡ m
counts_none zero m = refl
counts_none (suc n) m = counts_none n m
