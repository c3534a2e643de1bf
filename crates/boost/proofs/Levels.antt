-- Levels entered and left, on a book whose live attempts stand in a list.
use Rattle.std.proofs.Common.{◌≡◌, ℕ, ◌+◌, Bool, true, false, List, [], ◌∷◌, ◌++◌, take, drop, length, get_or, set, replicate, refl, sym, ◌∙◌, ap, subst}
use Rattle.std.proofs.lemmas.List.{take-append-drop, set-get_or}
use Rattle.std.specs.FinMap.{empty}
use Rattle.spec_ledger.specs.declared.Inverse.{Inverse}
use Rattle.spec_ledger.specs.declared.Op.{Op}
use Rattle.spec_ledger.specs.declared.TraceStep.TheVariants.{Opened}
use Rattle.spec_ledger.specs.Cells.{Cells}
use Rattle.spec_ledger.specs.Modes.{Modes}
use Rattle.spec_ledger.specs.Book.{Attempt, Content, IsKept, after_leave, back_all, standing_at, with_step}
use Rattle.spec_ledger.specs.Events.{EnterDone, LeaveDone, IsNotEntered}
use Rattle.spec_ledger.proofs.Kept.{IsKept-enter, IsKept-leave}
use Rattle.storage.specs.Counts.{Counts, Store, opened_all, closed_all, AreCounts}
use Rattle.storage.proofs.Counted.{closed_all-opened_all, AreCounts-empty, AreCounts-opened_all}
use Rattle.boost.specs.UnsettledCounts.{live_counts}
use Rattle.boost.specs.declared.standing.CallState.{CallState}
use Rattle.boost.specs.declared.standing.CallState.TheVariants.{Idle}
use Rattle.boost.specs.BookInvariant.{IsBook, IsPlace, rows_with, committed_with, live_with}
use Rattle.boost.specs.Marks.{IsLeft, since, left_with}
use Rattle.boost.proofs.Counted.{live_counts_out, AreCounts-live}
use Rattle.boost.proofs.Events.{split, below_here, found_here, counts_out, only_here}
use Rattle.boost.proofs.Held.{rows_with-append}
use Rattle.boost.proofs.Lists.{set_split, at_split}
use Rattle.boost.proofs.Standings.{same_standing}

-- ---- what leaving changes, by whether the changes stand

left_call : (stood : List Op) (keep : Bool) (a : Attempt) → (left_with stood keep a).call ≡ a.call
left_call stood true a = refl
left_call stood false a = refl

left_modes : (stood : List Op) (keep : Bool) (a : Attempt) → (left_with stood keep a).modes ≡ a.modes
left_modes stood true a = refl
left_modes stood false a = refl

leaves : (b : Content) (p : List Attempt) (a : Attempt) (q : List Attempt) (stood : List Op) (keep : Bool) → ◌≡◌ {A = Content} (record b { now = back_all (since stood keep a) b.now; attempts = p ++ left_with stood keep a ∷ q }) (after_leave b p a q stood keep)
leaves b p a q stood true = refl
leaves b p a q stood false = refl

opened_all-append : (is js : List Inverse) (m : Counts) → opened_all (is ++ js) m ≡ opened_all js (opened_all is m)
opened_all-append [] js m = refl
opened_all-append (i ∷ is) js m = opened_all-append is js _

-- the changes made since the mark are closed, and no others
closed_since : (stood : List Op) (keep : Bool) (a : Attempt) (m : Counts) → AreCounts m → closed_all (since stood keep a) (opened_all a.inverses m) ≡ opened_all (left_with stood keep a).inverses m
closed_since stood true a m are = refl
closed_since stood false a m are =
    let n = length stood in
    ap (λ is. closed_all (drop n a.inverses) (opened_all is m)) (sym (take-append-drop n a.inverses))
    ∙ ap (closed_all (drop n a.inverses)) (opened_all-append (take n a.inverses) (drop n a.inverses) m)
    ∙ closed_all-opened_all (drop n a.inverses) (opened_all (take n a.inverses) m) (AreCounts-opened_all (take n a.inverses) m are)

-- the rows of locks, where an attempt stands in for another of its call and modes
pub same_rows : (p : List Attempt) (a c : Attempt) (q : List Attempt) (rows : List Modes) → c.call ≡ a.call → c.modes ≡ a.modes → rows_with (p ++ a ∷ q) rows ≡ rows_with (p ++ c ∷ q) rows
same_rows p a c q rows e f =
    rows_with-append p (a ∷ q) rows ∙ (λ i. rows_with q (set (rows_with p rows) (sym e i) (sym f i))) ∙ sym (rows_with-append p (c ∷ q) rows)

-- ---- an attempt at its place

module _ (b : Content) (counts : Counts) (rows : List Modes) (standings : List CallState) (book : IsBook b counts rows standings) (call number i : ℕ) (xs : List Attempt) (same : xs ≡ b.attempts) (place : IsPlace xs i call number) (z : Attempt) (z_is : z ≡ get_or b.attempts i z) where
  abbrev before : List Attempt
  before = take i b.attempts

  abbrev later : List Attempt
  later = drop (i + 1) b.attempts

  there : b.attempts ≡ before ++ place.attempt ∷ later
  there = split b counts rows standings book call number i xs same place

  same_here : z ≡ place.attempt
  same_here = sym (at_split b.attempts i place.attempt z (below_here b counts rows standings book call number i xs same place) z_is there)

  -- another attempt of the same call and modes stands in its place
  module _ (y c : Attempt) (is : y ≡ c) (call_is : c.call ≡ place.attempt.call) (modes_are : c.modes ≡ place.attempt.modes) (now now' : Cells) (now_is : now ≡ now') where
    moved : ◌≡◌ {A = Content} (record b { now = now; attempts = set b.attempts i y }) (record b { now = now'; attempts = before ++ c ∷ later })
    moved = λ k. record b { now = now_is k; attempts = (set_split b.attempts i y (below_here b counts rows standings book call number i xs same place) ∙ ap (λ x. before ++ x ∷ later) is) k }

    IsBook-moved : (counts' : Counts) → IsKept (record b { now = now'; attempts = before ++ c ∷ later }) → counts' ≡ opened_all c.inverses (live_counts (before ++ later) empty) → IsBook (record b { now = now; attempts = set b.attempts i y }) counts' rows standings
    IsBook-moved counts' kept counts_are = record {
      kept = subst (λ x. IsKept x) (sym moved) kept;
      counted = counts_are ∙ sym (ap (λ (x : Content). live_counts x.attempts empty) moved ∙ live_counts_out before c later empty);
      locked =
          book.locked ∙ ap (λ ys. rows_with ys (replicate (length b.begun) empty)) there
          ∙ same_rows before place.attempt c later (replicate (length b.begun) empty) call_is modes_are
          ∙ sym (ap (λ (x : Content). rows_with x.attempts (replicate (length b.begun) empty)) moved);
      standing =
          book.standing ∙ ap (λ ys. live_with 0 ys (committed_with b.entries (replicate (length b.begun) Idle))) there
          ∙ same_standing before place.attempt c later (committed_with b.entries (replicate (length b.begun) Idle)) (sym call_is)
          ∙ sym (ap (λ (x : Content). live_with 0 x.attempts (committed_with b.entries (replicate (length b.begun) Idle))) moved);
    }

  -- ---- a level is entered

  module _ (y : Attempt) (y_is : y ≡ with_step z Opened) where
    enters : y ≡ with_step place.attempt Opened
    enters = y_is ∙ ap (λ x. with_step x Opened) same_here

    pub IsBook-enter : IsBook (record b { attempts = set b.attempts i y }) counts rows standings
    IsBook-enter =
        IsBook-moved y (with_step place.attempt Opened) enters refl refl b.now b.now refl counts
        (IsKept-enter b before place.attempt later book.kept there)
        (counts_out b counts rows standings book call number i xs same place)

    pub EnterDone-enter : EnterDone b (record b { attempts = set b.attempts i y }) call number
    EnterDone-enter = record {
      before = before;
      attempt = place.attempt;
      later = later;
      found = found_here b counts rows standings book call number i xs same place;
      new_is = moved y (with_step place.attempt Opened) enters refl refl b.now b.now refl;
    }

  -- ---- the innermost level is left

  module _ (y : Attempt) (store store' : Store) (cells_are : store.cells ≡ b.now) (unsettled_are : store.unsettled ≡ counts) (keep : Bool) (left : IsLeft z y store store' keep) where
    leaves_here : IsLeft place.attempt y store store' keep
    leaves_here = subst (λ x. IsLeft x y store store' keep) same_here left

    now_left : store'.cells ≡ back_all (since leaves_here.stood keep place.attempt) b.now
    now_left = leaves_here.cells_are ∙ ap (back_all (since leaves_here.stood keep place.attempt)) cells_are

    pub IsBook-leave : IsBook (record b { now = store'.cells; attempts = set b.attempts i y }) store'.unsettled rows standings
    IsBook-leave =
        let out = counts_out b counts rows standings book call number i xs same place in
        let stood = leaves_here.stood in
        IsBook-moved y (left_with stood keep place.attempt) leaves_here.attempt_is (left_call stood keep place.attempt) (left_modes stood keep place.attempt)
        store'.cells (back_all (since stood keep place.attempt) b.now) now_left store'.unsettled
        (subst (λ x. IsKept x) (sym (leaves b before place.attempt later stood keep)) (IsKept-leave b before place.attempt later book.kept there stood leaves_here.outer leaves_here.entered keep))
        (leaves_here.unsettled_are ∙ ap (closed_all (since stood keep place.attempt)) (unsettled_are ∙ out)
        ∙ closed_since stood keep place.attempt (live_counts (before ++ later) empty) (AreCounts-live (before ++ later) empty AreCounts-empty))

    pub LeaveDone-leave : LeaveDone b (record b { now = store'.cells; attempts = set b.attempts i y }) call number keep
    LeaveDone-leave = record {
      before = before;
      attempt = place.attempt;
      later = later;
      found = found_here b counts rows standings book call number i xs same place;
      stood = leaves_here.stood;
      outer = leaves_here.outer;
      entered = leaves_here.entered;
      new_is =
          moved y (left_with leaves_here.stood keep place.attempt) leaves_here.attempt_is (left_call leaves_here.stood keep place.attempt) (left_modes leaves_here.stood keep place.attempt)
          store'.cells (back_all (since leaves_here.stood keep place.attempt) b.now) now_left
          ∙ leaves b before place.attempt later leaves_here.stood keep;
    }

    pub was_entered : ¬ (IsNotEntered b call number)
    was_entered none =
        let h = only_here b counts rows standings book call number i xs same place none.before none.attempt none.later none.found in
        let no : leaves_here.stood ∷ leaves_here.outer ≡ [] = sym leaves_here.entered ∙ ap (λ (x : Attempt). (standing_at x.trace).marks) h.1 ∙ none.none in
        cc

  -- nothing is left: the attempt and the cells are as they were

  module _ (y : Attempt) (store store' : Store) (cells_are : store.cells ≡ b.now) (unsettled_are : store.unsettled ≡ counts) (attempt_same : y ≡ z) (store_same : store' ≡ store) where
    pub stays : ◌≡◌ {A = Content} (record b { now = store'.cells; attempts = set b.attempts i y }) b
    stays = λ k. record b { now = (ap (λ (x : Store). x.cells) store_same ∙ cells_are) k; attempts = (ap (set b.attempts i) (attempt_same ∙ z_is) ∙ set-get_or b.attempts i z) k }

    pub IsBook-stays : IsBook (record b { now = store'.cells; attempts = set b.attempts i y }) store'.unsettled rows standings
    IsBook-stays =
        let path : ◌≡◌ {A = Content × Counts} (b, counts) (record b { now = store'.cells; attempts = set b.attempts i y }, store'.unsettled) = λ k. (sym stays k, sym (ap (λ (x : Store). x.unsettled) store_same ∙ unsettled_are) k) in
        let P : Content × Counts → Type 0 = λ (x, c). IsBook x c rows standings in
        subst P path book

  pub not_entered : (standing_at z.trace).marks ≡ [] → IsNotEntered b call number
  not_entered none = record {
    before = before;
    attempt = place.attempt;
    later = later;
    found = found_here b counts rows standings book call number i xs same place;
    none = ap (λ (x : Attempt). (standing_at x.trace).marks) (sym same_here) ∙ none;
  }
