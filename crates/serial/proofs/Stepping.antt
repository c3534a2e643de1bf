-- One step more of a run that touches cells.
use Rattle.std.proofs.Common.{◌≡◌, ℕ, ◌≤◌, Bool, true, false, cond, Option, Some, None, List, [], ◌∷◌, ◌++◌, length, take, drop, refl, sym, ◌∙◌, ap, subst}
use Rattle.std.proofs.lemmas.List.{take-append-drop}
use Rattle.std.specs.Prelude.{IsSome}
use Rattle.std.specs.List.{AllByRecursion}
use Rattle.std.specs.Ordering.{eq_by_cmp}
use Rattle.std.specs.FinMap.{empty, get}
use Rattle.std.specs.BTreeMap as tree
use Rattle.std.specs.BTreeMap.{BTreeMap}
use Rattle.spec_ledger.specs.declared.Inverse.{Inverse}
use Rattle.spec_ledger.specs.declared.Lock.{Lock}
use Rattle.spec_ledger.specs.declared.Op.{Op}
use Rattle.spec_ledger.specs.declared.Op.TheVariants.{Get, Has, Put, Del, Add, Total}
use Rattle.spec_ledger.specs.declared.Reply.{Reply}
use Rattle.spec_ledger.specs.declared.TraceStep.{TraceStep}
use Rattle.spec_ledger.specs.declared.TraceStep.TheVariants as step
use Rattle.spec_ledger.specs.declared.TraceStep.TheVariants.{Did}
use Rattle.spec_ledger.specs.Cells.{Cells, lock_cmp, lock_of, cell_after, cells_after, reply_of, inverse_of, inverse_to, set_at, update}
use Rattle.spec_ledger.specs.Modes.{Modes, mode_of, join_held, ops_of, touched}
use Rattle.spec_ledger.specs.Book.{back_all, standing, inverses_of}
use Rattle.spec_ledger.proofs.Ops.{AreCells-empty}
use Rattle.spec_ledger.proofs.Traces.{All-weaken, All-standing, Holds, IsMark, all_hold, get-touched_by, touched-mark}
use Rattle.storage.specs.Counts.{opened_all, closed_all}
use Rattle.storage.proofs.Counted.{AreCounts-empty, AreCounts-opened_all, closed_all-opened_all, opened_all-append, opened_all-push}
use Rattle.interp.specs.Progress.{mark_of}
use Rattle.serial.specs.Asking.{asked}
use Rattle.serial.specs.Playing.{AreDoneInLevels}
use Rattle.serial.proofs.Levels.{none_in_levels, did_one, entered, kept, dropped, left_outside, within}
use Rattle.serial.proofs.Modes.{touched-push}
use Rattle.serial.specs.declared.touches.Touch.{Touch}
use Rattle.serial.specs.Touches.{AreTouchesOf, IsCellAt, IsTouched, found_in, later_in, modes_of, with_changes}
use Rattle.serial.proofs.Places.{get_written, same_at, written, written_twice}
use Rattle.serial.proofs.OverViewMeeting.{met}

is_mark : (keep : Bool) → IsMark (mark_of keep)
is_mark true = tt
is_mark false = tt

-- each lock whose change may be taken back was asked for
module _ (t : List TraceStep) where
  abbrev WasAsked : Op → Type 0
  WasAsked op = IsSome (get (touched t) (lock_of op))

  asked_one : (s : Op) → Holds (lock_of s) (mode_of s) (ops_of t) → WasAsked s
  asked_one s h = subst (λ o. IsSome o) (sym (get-touched_by (ops_of t) (lock_of s) ∙ h.is)) refl

  touched_one : (s : Op) (c : Option ℕ) → WasAsked s → IsTouched (touched t) (inverse_of s c)
  touched_one (Get p) c h = tt
  touched_one (Has p) c h = tt
  touched_one (Put p v) c h = h
  touched_one (Del p) c h = h
  touched_one (Add p v) c h = h
  touched_one (Total p) c h = tt

  all_touched : (ops : List Op) → AllByRecursion WasAsked ops → (m : Cells) → AllByRecursion (IsTouched (touched t)) (inverses_of ops m)
  all_touched [] all m = tt
  all_touched (s ∷ ops) all m = (touched_one s (get m (lock_of s)) all.0, all_touched ops all.1 (cells_after s m))

  pub standing_touched : (m : Cells) → AllByRecursion (IsTouched (touched t)) (inverses_of (standing t) m)
  standing_touched m = all_touched (standing t) (All-standing WasAsked t (All-weaken (λ s. Holds (lock_of s) (mode_of s) (ops_of t)) WasAsked asked_one (ops_of t) (all_hold (ops_of t)))) m

-- ---- nothing done

pub none_touched : (es : List (Lock × Touch)) → es ≡ [] → AreTouchesOf [] es [] []
none_touched es e = subst (λ x. AreTouchesOf [] x [] []) (sym e) (record { done = none_in_levels (with_changes empty []) refl AreCells-empty; modes = refl })

-- ---- an operation

module _ (m n : BTreeMap Lock Touch) (wanted : Lock) (op : Op) (t next : Touch) (wanted_is : wanted ≡ lock_of op)
    (h : (q : Lock) → tree.get lock_cmp n q ≡ cond (eq_by_cmp lock_cmp wanted q) (Some next) (tree.get lock_cmp m q))
    (mode : t.mode ≡ join_held (mode_of op) (get (modes_of m.entries) wanted))
    (found : IsSome (get (modes_of m.entries) wanted) → t.found ≡ get (found_in m.entries) wanted)
    (later : IsSome (get (modes_of m.entries) wanted) → t.later ≡ get (later_in m.entries) wanted)
    (cell : get (modes_of m.entries) wanted ≡ None → IsCellAt wanted t.found)
    (first : get (modes_of m.entries) wanted ≡ None → t.later ≡ t.found)
    (next_mode : next.mode ≡ t.mode) (next_found : next.found ≡ t.found) (next_later : next.later ≡ cell_after op t.later)
    (r : Reply) (replied : r ≡ reply_of op t.later) (i : Inverse) (undoes : i ≡ inverse_of op t.later) (is js : List Inverse) (pushed : js ≡ is ++ i ∷ []) where
  -- what is there before the operation, once its lock is met
  mid : Cells
  mid = set_at (later_in m.entries) wanted t.later

  mid_at : t.later ≡ get mid (lock_of op)
  unfolding mid
  mid_at = sym (get_written (later_in m.entries) wanted t.later) ∙ ap (get (set_at (later_in m.entries) wanted t.later)) wanted_is

  found_is : found_in n.entries ≡ set_at (found_in m.entries) wanted t.found
  found_is = written (λ (x : Touch). x.found) m n wanted (Some next) h ∙ ap (λ c. set_at (found_in m.entries) wanted c) next_found

  later_is : later_in n.entries ≡ cells_after op mid
  unfolding mid
  later_is =
      written (λ (x : Touch). x.later) m n wanted (Some next) h
      ∙ ap (λ c. set_at (later_in m.entries) wanted c) next_later
      ∙ sym (written_twice (later_in m.entries) wanted t.later (cell_after op t.later))
      ∙ ap (λ c. set_at mid wanted (cell_after op c)) (sym (get_written (later_in m.entries) wanted t.later))
      ∙ ap (λ k. update mid k (cell_after op)) wanted_is

  modes_are : modes_of n.entries ≡ asked (modes_of m.entries) op
  modes_are =
      written (λ (x : Touch). Some x.mode) m n wanted (Some next) h
      ∙ ap (λ (x : _). set_at (modes_of m.entries) wanted (Some x)) (next_mode ∙ mode)
      ∙ ap (λ l. set_at (modes_of m.entries) l (Some (join_held (mode_of op) (get (modes_of m.entries) l)))) wanted_is

  module _ (tr : List TraceStep) (ms : List ℕ) (d : AreTouchesOf tr m.entries is ms) where
    met_first : get (modes_of m.entries) wanted ≡ None → AreDoneInLevels (with_changes (found_in n.entries) []) tr (with_changes mid is) is ms
    unfolding mid
    met_first none =
        met wanted t.found tr (found_in m.entries) (later_in m.entries) (found_in n.entries) mid is ms (ap (λ (x : Modes). get x wanted) (sym d.modes) ∙ none) (cell none)
        found_is (ap (λ c. set_at (later_in m.entries) wanted c) (first none)) d.done

    met_again : IsSome (get (modes_of m.entries) wanted) → AreDoneInLevels (with_changes (found_in n.entries) []) tr (with_changes mid is) is ms
    unfolding mid
    met_again there =
        subst (λ (x : Cells). AreDoneInLevels (with_changes x []) tr (with_changes mid is) is ms) (sym (same_at (found_in m.entries) (found_in n.entries) wanted t.found found_is (found there)))
        (subst (λ (x : Cells). AreDoneInLevels (with_changes (found_in m.entries) []) tr (with_changes x is) is ms) (sym (same_at (later_in m.entries) mid wanted t.later refl (later there))) d.done)

    is_met : AreDoneInLevels (with_changes (found_in n.entries) []) tr (with_changes mid is) is ms
    is_met = elim (get (modes_of m.entries) wanted) as (λ o. get (modes_of m.entries) wanted ≡ o → AreDoneInLevels (with_changes (found_in n.entries) []) tr (with_changes mid is) is ms) [
      | None ↦ λ none. met_first none
      | Some mode ↦ λ e. met_again (subst (λ o. IsSome o) (sym e) refl)
    ] refl

    pub acted : AreTouchesOf (tr ++ Did op r ∷ []) n.entries js ms
    acted =
        let inverses : js ≡ is ++ inverse_to op mid ∷ [] = pushed ∙ ap (λ x. is ++ x ∷ []) (undoes ∙ ap (inverse_of op) mid_at) in
        record {
          done = did_one (with_changes (found_in n.entries) []) (with_changes mid is) (with_changes (later_in n.entries) js) tr (tr ++ Did op r ∷ []) is js ms op r is_met refl
              (replied ∙ ap (reply_of op) mid_at) later_is (ap (λ x. opened_all x empty) inverses ∙ opened_all-push is (inverse_to op mid) empty) inverses;
          modes = modes_are ∙ ap (λ x. asked x op) d.modes ∙ sym (touched-push tr op r);
        }

-- ---- levels

counts_left : (n : ℕ) (is js : List Inverse) → js ≡ take n is → opened_all js empty ≡ closed_all (drop n is) (opened_all is empty)
counts_left n is js e =
    ap (λ x. opened_all x empty) e
    ∙ sym (closed_all-opened_all (drop n is) (opened_all (take n is) empty) (AreCounts-opened_all (take n is) empty AreCounts-empty))
    ∙ ap (closed_all (drop n is)) (sym (opened_all-append (take n is) (drop n is) empty) ∙ ap (λ x. opened_all x empty) (take-append-drop n is))

module _ (tr : List TraceStep) (es : List (Lock × Touch)) (is : List Inverse) (ms : List ℕ) (d : AreTouchesOf tr es is ms) where
  pub may_drop : AllByRecursion (IsTouched (modes_of es)) is
  may_drop =
      subst (λ (m : Modes). AllByRecursion (IsTouched m) is) (sym d.modes)
      (subst (AllByRecursion (IsTouched (touched tr))) (sym d.done.done.inverses_are) (standing_touched tr (found_in es)))

  pub mark_within : (rest : List ℕ) (n : ℕ) → ms ≡ rest ++ n ∷ [] → n ≤ length is
  mark_within rest n e = within (with_changes (found_in es) []) (with_changes (later_in es) is) tr is ms d.done rest n e

  pub enters : (u : List TraceStep) → u ≡ tr ++ step.Opened ∷ [] → (n : ℕ) → n ≡ length is → (ns : List ℕ) → ns ≡ ms ++ n ∷ [] → AreTouchesOf u es is ns
  enters u e n size ns marks = record {
    done = entered (with_changes (found_in es) []) (with_changes (later_in es) is) tr is ms d.done u e n size ns marks;
    modes = d.modes ∙ sym (ap touched e ∙ touched-mark tr step.Opened tt);
  }

  module _ (keep : Bool) where
    marked : touched tr ≡ touched (tr ++ mark_of keep ∷ [])
    marked = sym (touched-mark tr (mark_of keep) (is_mark keep))

    pub leaves_outside : (size : ℕ) → size ≡ length ms → size ≡ 0 → (rest : List ℕ) → ms ≡ rest ++ [] → AreTouchesOf (tr ++ mark_of keep ∷ []) es is rest
    leaves_outside size sized none rest e = record {
      done = left_outside (with_changes (found_in es) []) (with_changes (later_in es) is) tr is ms d.done keep size sized none rest e;
      modes = d.modes ∙ marked;
    }

    pub leaves_kept : keep ≡ true → (rest : List ℕ) (n : ℕ) → ms ≡ rest ++ n ∷ [] → AreTouchesOf (tr ++ mark_of keep ∷ []) es is rest
    leaves_kept stands rest n e = record {
      done = kept (with_changes (found_in es) []) (with_changes (later_in es) is) tr is ms d.done keep stands rest n e;
      modes = d.modes ∙ marked;
    }

    pub leaves_dropped : keep ≡ false → (rest : List ℕ) (n : ℕ) → ms ≡ rest ++ n ∷ [] → (fs : List (Lock × Touch)) (js : List Inverse) → js ≡ take n is → found_in fs ≡ found_in es
        → later_in fs ≡ back_all (drop n is) (later_in es) → modes_of fs ≡ modes_of es → AreTouchesOf (tr ++ mark_of keep ∷ []) fs js rest
    leaves_dropped falls rest n e fs js taken found later modes = record {
      done = subst (λ (x : Cells). AreDoneInLevels (with_changes x []) (tr ++ mark_of keep ∷ []) (with_changes (later_in fs) js) js rest) (sym found)
          (dropped (with_changes (found_in es) []) (with_changes (later_in es) is) tr is ms d.done rest n e keep falls (with_changes (later_in fs) js) js taken later (counts_left n is js taken));
      modes = modes ∙ d.modes ∙ marked;
    }
