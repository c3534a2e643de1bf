-- What a call found is what the view that it ran over may have answered.
use Rattle.std.proofs.Common.{◌≡◌, ℕ, true, false, cond, T, Option, Some, None, List, [], ◌∷◌, map, refl, sym, ◌∙◌, ap, subst}
use Rattle.std.proofs.lemmas.List.Elements.{All-from_recursion}
use Rattle.std.specs.Prelude.{All, IsSome}
use Rattle.std.specs.Cmp.{tied_itself}
use Rattle.std.specs.List.{AllByRecursion}
use Rattle.std.specs.Ordering.{eq_by_cmp, is_eq}
use Rattle.std.specs.FinMap.{entries, entries_sorted, find, get, get-empty, get-entries, is_sorted}
use Rattle.std.specs.BTreeMap as tree
use Rattle.std.specs.BTreeMap.{BTreeMap}
use Rattle.spec_ledger.specs.declared.Lock.{Lock}
use Rattle.spec_ledger.specs.declared.Mode.{Mode}
use Rattle.spec_ledger.specs.declared.Mode.TheVariants.{Read as Reading, Add as Adding, Excl}
use Rattle.spec_ledger.specs.Cells.{Cells, lock_cmp, set_at}
use Rattle.spec_ledger.specs.Modes.{Modes}
use Rattle.spec_ledger.proofs.Maps.{get-set_at, is_key, lock_cmp_total, lock_cmp-IsAntisymmetric}
use Rattle.spec_execution.specs.ReadWriteSets.{access_at, access_by, use_of}
use Rattle.lock_profile.proofs.Groups.{find_below, left, right}
use Rattle.serial.specs.declared.touches.Touch.{Touch}
use Rattle.serial.specs.FoundCells.{IsFoundBy}
use Rattle.serial.specs.Touches.{AreFoundBy, found_in, modes_of}
use Rattle.serial.proofs.Places.{get_written, written}

module _ (may_read : Lock → Option ℕ → Type 0) where
  -- ---- the touches

  -- nothing is touched
  pub none_found : (es : List (Lock × Touch)) → es ≡ [] → AreFoundBy may_read es
  none_found es e = λ q there. absurd (let no = subst (λ o. IsSome o) (ap (λ (x : List (Lock × Touch)). get (modes_of x) q) e ∙ get-empty lock_cmp q) there in cc)

  -- the same locks are touched, and the same was found there
  pub still_found : (es fs : List (Lock × Touch)) → found_in fs ≡ found_in es → modes_of fs ≡ modes_of es → AreFoundBy may_read es → AreFoundBy may_read fs
  still_found es fs found modes are = λ q there. subst (λ (x : Cells). may_read q (get x q)) (sym found) (are q (subst (λ (x : Modes). IsSome (get x q)) modes there))

  -- a touch is written: what it found was there before, or was read
  module _ (m n : BTreeMap Lock Touch) (wanted : Lock) (t next : Touch)
      (h : (q : Lock) → tree.get lock_cmp n q ≡ cond (eq_by_cmp lock_cmp wanted q) (Some next) (tree.get lock_cmp m q))
      (found : IsSome (get (modes_of m.entries) wanted) → t.found ≡ get (found_in m.entries) wanted)
      (read : get (modes_of m.entries) wanted ≡ None → may_read wanted t.found)
      (next_found : next.found ≡ t.found) (are : AreFoundBy may_read m.entries) where
    found_is : found_in n.entries ≡ set_at (found_in m.entries) wanted t.found
    found_is = written (λ (x : Touch). x.found) m n wanted (Some next) h ∙ ap (λ c. set_at (found_in m.entries) wanted c) next_found

    here : may_read wanted t.found
    here = elim (get (modes_of m.entries) wanted) as (λ o. get (modes_of m.entries) wanted ≡ o → may_read wanted t.found) [
      | None ↦ λ none. read none
      | Some mode ↦ λ e. let there = subst (λ o. IsSome o) (sym e) refl in subst (may_read wanted) (sym (found there)) (are wanted there)
    ] refl

    pub one_found : AreFoundBy may_read n.entries
    one_found q there =
        elim (eq_by_cmp lock_cmp q wanted) as (λ b. eq_by_cmp lock_cmp q wanted ≡ b → may_read q (get (found_in n.entries) q)) [
          | true ↦ λ is.
              subst (λ l. may_read l (get (found_in n.entries) l)) (sym (is_key lock_cmp_total lock_cmp-IsAntisymmetric q wanted is))
              (subst (may_read wanted) (sym (ap (λ (x : Cells). get x wanted) found_is ∙ get_written (found_in m.entries) wanted t.found)) here)
          | false ↦ λ is.
              let found_at = ap (λ (x : Cells). get x q) found_is ∙ get-set_at lock_cmp_total (found_in m.entries) wanted t.found q ∙ ap (λ b. cond b t.found (get (found_in m.entries) q)) is in
              let mode_at =
              ap (λ (x : Modes). get x q) (written (λ (x : Touch). Some x.mode) m n wanted (Some next) h)
              ∙ get-set_at lock_cmp_total (modes_of m.entries) wanted (Some next.mode) q
              ∙ ap (λ b. cond b (Some next.mode) (get (modes_of m.entries) q)) is in
              subst (may_read q) (sym found_at) (are q (subst (λ o. IsSome o) mode_at there))
        ] refl

  -- ---- the accesses

  found_by : (mode : Mode) (l : Lock) (x y : Option ℕ) → may_read l x → IsFoundBy may_read (access_by mode l x y)
  found_by Reading l x y h = h
  found_by Adding l x y h = tt
  found_by Excl l x y h = h

  module _ (X Y : Cells) where
    found_at_each : (es : List (Lock × Mode)) → T (is_sorted lock_cmp es) → ((q : Lock) (mode : Mode) → find lock_cmp q es ≡ Some mode → may_read q (get X q)) → AllByRecursion (IsFoundBy may_read) (map (access_at X Y) es)
    found_at_each [] sorted may = tt
    found_at_each (e ∷ es) sorted may = (
      found_by (use_of e.0.kind e.1) e.0 (get X e.0) (get Y e.0) (may e.0 e.1 (ap (λ r. cond (is_eq r) (Some e.1) (find lock_cmp e.0 es)) (tied_itself lock_cmp_total e.0))),
      found_at_each es (right _ _ sorted) (λ q mode is. may q mode (
          elim (eq_by_cmp lock_cmp q e.0) as (λ b. eq_by_cmp lock_cmp q e.0 ≡ b → cond b (Some e.1) (find lock_cmp q es) ≡ Some mode) [
            | true ↦ λ same.
                let none : find lock_cmp q es ≡ None = ap (λ k. find lock_cmp k es) (is_key lock_cmp_total lock_cmp-IsAntisymmetric q e.0 same) ∙ find_below e.0 es (left _ _ sorted) in
                let no : None ≡ Some mode = sym none ∙ is in cc
            | false ↦ λ _. is
          ] refl)),
    )

  -- what is put down of the touches that a call leaves
  pub all_found : (es : List (Lock × Touch)) (later : Cells) (locks : Modes) → locks ≡ modes_of es → AreFoundBy may_read es → All (IsFoundBy may_read) (map (access_at (found_in es) later) (entries locks))
  all_found es later locks locks_are are =
      All-from_recursion (IsFoundBy may_read) _ (found_at_each (found_in es) later (entries locks) (entries_sorted locks) (λ q mode is.
      let there : get (modes_of es) q ≡ Some mode = ap (λ (x : Modes). get x q) (sym locks_are) ∙ get-entries locks q ∙ is in
      are q (subst (λ o. IsSome o) (sym there) refl)))
