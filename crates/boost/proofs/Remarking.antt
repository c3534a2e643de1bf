-- An attempt that has made marks of levels alone, in place of one that has made others.
use Rattle.std.proofs.Common.{◌≡◌, ℕ, zero, suc, ◌+◌, ◌-◌, ◌<◌, ◌≤◌, Option, Some, None, option_to_list, List, [], ◌∷◌, ◌++◌, length, map, reverse, get_or, set, take, drop, replicate, refl, sym, ◌∙◌, ap, subst, arith}
use Rattle.std.proofs.lemmas.List.{append-nil, length-append, take-append-drop, take_more}
use Rattle.std.specs.List.{AllByRecursion}
use Rattle.std.specs.FinMap.{empty}
use Rattle.spec_ledger.specs.declared.Inverse.{Inverse}
use Rattle.spec_ledger.specs.declared.Op.{Op}
use Rattle.spec_ledger.specs.declared.Reply.{Reply}
use Rattle.spec_ledger.specs.declared.TraceStep.{TraceStep}
use Rattle.spec_ledger.specs.declared.TraceStep.TheVariants.{Did, Opened, Kept, Dropped}
use Rattle.spec_ledger.specs.Cells.{Cells}
use Rattle.spec_ledger.specs.Modes.{Modes, AreCompatible, ops_of, touched, touched_by}
use Rattle.spec_ledger.specs.Book.{Attempt, Content, GetsRepliesFrom, Marked, IsKept, IsLive, after, kept_at, dropped_at, inverses_of, live_after, ops_after, settled, standing, standing_at, unmarked}
use Rattle.spec_ledger.proofs.Kept.{All-with, apart_with, beside, live_here, live_others, others_apart}
use Rattle.spec_ledger.proofs.Traces.{All-standing, after-standing, live_after-append, ops_of-append, standing_at-push}
use Rattle.storage.specs.Counts.{Counts}
use Rattle.boost.specs.UnsettledCounts.{live_counts}
use Rattle.boost.specs.declared.standing.CallState.{CallState}
use Rattle.boost.specs.declared.standing.CallState.TheVariants.{Idle}
use Rattle.boost.specs.BookInvariant.{IsBook, rows_with, committed_with, live_with}
use Rattle.boost.specs.AttemptNumbers.{after_begin_with, BegunAs, BegunWith, marked}
use Rattle.boost.proofs.Counted.{live_counts_out}
use Rattle.boost.proofs.Levels.{same_rows}
use Rattle.boost.proofs.Marking.{kept_marks, dropped_marks, none_open, opened_marks}
use Rattle.boost.proofs.Standings.{same_standing}

-- ---- a trace of marks alone

nothing : (xs : List Op) → AllByRecursion (λ _. ⊥) xs → xs ≡ []
nothing [] h = refl
nothing (x ∷ xs) h = absurd h.0

pub standing-marks : (t : List TraceStep) → ops_of t ≡ [] → standing t ≡ []
standing-marks t none = nothing (standing t) (All-standing (λ _. ⊥) t (subst (AllByRecursion (λ _. ⊥)) (sym none) tt))

replies-marks : (t : List TraceStep) (p : Marked Cells) → ops_of t ≡ [] → GetsRepliesFrom t p
replies-marks [] p none = tt
replies-marks (Did op r ∷ t) p none = absurd (cc)
replies-marks (Opened ∷ t) p none = replies-marks t _ none
replies-marks (Kept ∷ t) p none = replies-marks t _ none
replies-marks (Dropped ∷ t) p none = replies-marks t _ none

after-marks : (t : List TraceStep) (m : Cells) → ops_of t ≡ [] → after t m ≡ m
after-marks t m none = after-standing t m ∙ ap (λ ops. ops_after ops m) (standing-marks t none)

front_none : (xs ys : List Op) → xs ++ ys ≡ [] → xs ≡ []
front_none [] ys e = refl
front_none (x ∷ xs) ys e = absurd (cc)

-- ---- the list of open marks

take_none : (n : ℕ) → ◌≡◌ {A = List Inverse} [] (take n [])
take_none zero = refl
take_none (suc n) = refl

empty_of : (ms : List ℕ) (n : ℕ) → n ≡ length ms → ¬ (0 < n) → ms ≡ []
empty_of [] n wide none = refl
empty_of (x ∷ ms) n wide none = absurd (none (omega (arith, wide)))

module _ (t : List TraceStep) (s : TraceStep) (none : ops_of (t ++ s ∷ []) ≡ []) (ms ms' : List ℕ) (are : reverse ms ≡ map length (standing_at t).marks) where
  no_ops : ops_of t ≡ []
  no_ops = front_none (ops_of t) (ops_of (s ∷ [])) (sym (ops_of-append t (s ∷ [])) ∙ none)

  even : ◌≡◌ {A = ℕ} 0 (length (standing t))
  even = ap length (sym (standing-marks t no_ops))

  pub noted_opened : s ≡ Opened → ms' ≡ ms ++ 0 ∷ [] → reverse ms' ≡ map length (standing_at (t ++ s ∷ [])).marks
  noted_opened is more = opened_marks t (t ++ s ∷ []) [] [] ms ms' even are 0 refl (ap (λ x. t ++ x ∷ []) is) more

  -- a mark was open
  pub noted_kept : s ≡ Kept → (n : ℕ) → ms ≡ ms' ++ n ∷ [] → reverse ms' ≡ map length (standing_at (t ++ s ∷ [])).marks
  noted_kept is n less = kept_marks t (t ++ s ∷ []) [] [] ms ms' even are n less (ap (λ x. t ++ x ∷ []) is)

  pub noted_dropped : s ≡ Dropped → (n : ℕ) → ms ≡ ms' ++ n ∷ [] → reverse ms' ≡ map length (standing_at (t ++ s ∷ [])).marks
  noted_dropped is n less = dropped_marks t (t ++ s ∷ []) [] [] ms ms' even are n less (ap (λ x. t ++ x ∷ []) is) (take_none n)

  -- no mark was open
  pub noted_kept_none : s ≡ Kept → ms ≡ [] → ms' ≡ [] → reverse ms' ≡ map length (standing_at (t ++ s ∷ [])).marks
  noted_kept_none is none_before none_after =
      ap reverse none_after
      ∙ sym (ap (λ x. map length (standing_at (t ++ x ∷ [])).marks) is ∙ ap (λ (p : Marked (List Op)). map length p.marks) (standing_at-push t Kept) ∙ ap (λ xs. map length (kept_at (standing t) xs).marks) (none_open t t [] [] ms ms even are none_before))

  pub noted_dropped_none : s ≡ Dropped → ms ≡ [] → ms' ≡ [] → reverse ms' ≡ map length (standing_at (t ++ s ∷ [])).marks
  noted_dropped_none is none_before none_after =
      ap reverse none_after
      ∙ sym (ap (λ x. map length (standing_at (t ++ x ∷ [])).marks) is ∙ ap (λ (p : Marked (List Op)). map length p.marks) (standing_at-push t Dropped) ∙ ap (λ xs. map length (dropped_at (standing t) xs).marks) (none_open t t [] [] ms ms even are none_before))

  pub noted_did : (op : Op) (r : Reply) → s ≡ Did op r → ⊥
  noted_did op r is =
      let no : ops_of t ++ op ∷ [] ≡ [] = sym (ops_of-append t (Did op r ∷ [])) ∙ ap (λ x. ops_of (t ++ x ∷ [])) (sym is) ∙ none in
      let long : length (ops_of t ++ op ∷ []) ≡ 0 = ap length no in
      omega (arith, long, length-append (ops_of t) (op ∷ []))

  -- what a pop took
  module _ (o : Option ℕ) (items : ms ≡ ms' ++ option_to_list o) (n : ℕ) (wide : n ≡ length ms) (value : (d : ℕ) → 0 < n → o ≡ Some (get_or ms (n - 1) d)) where
    was_empty : o ≡ None → (ms ≡ []) × (ms' ≡ [])
    was_empty e =
        let none_before : ms ≡ [] = empty_of ms n wide (λ below. let no : None ≡ Some (get_or ms (n - 1) 0) = sym e ∙ value 0 below in cc) in
        let same : ms ≡ ms' = items ∙ ap (λ x. ms' ++ option_to_list x) e ∙ append-nil ms' in
        (none_before, sym same ∙ none_before)

  pub popped_kept : s ≡ Kept → (o : Option ℕ) → ms ≡ ms' ++ option_to_list o → (n : ℕ) → n ≡ length ms → ((d : ℕ) → 0 < n → o ≡ Some (get_or ms (n - 1) d)) → reverse ms' ≡ map length (standing_at (t ++ s ∷ [])).marks
  popped_kept is (Some k) items n wide value = noted_kept is k items
  popped_kept is None items n wide value = let e = was_empty None items n wide value refl in noted_kept_none is e.0 e.1

  pub popped_dropped : s ≡ Dropped → (o : Option ℕ) → ms ≡ ms' ++ option_to_list o → (n : ℕ) → n ≡ length ms → ((d : ℕ) → 0 < n → o ≡ Some (get_or ms (n - 1) d)) → reverse ms' ≡ map length (standing_at (t ++ s ∷ [])).marks
  popped_dropped is (Some k) items n wide value = noted_dropped is k items
  popped_dropped is None items n wide value = let e = was_empty None items n wide value refl in noted_dropped_none is e.0 e.1

-- ---- marks one after another

pub taken_marks : (t : List TraceStep) (i : ℕ) → ops_of t ≡ [] → ops_of (take i t) ≡ []
taken_marks t i none = front_none (ops_of (take i t)) (ops_of (drop i t)) (sym (ops_of-append (take i t) (drop i t)) ∙ ap ops_of (take-append-drop i t) ∙ none)

pub one_more : (t : List TraceStep) (i : ℕ) (d : TraceStep) → i < length t → ops_of t ≡ [] → (ms ms' : List ℕ) (trace trace' : List TraceStep) → trace ≡ take i t → trace' ≡ trace ++ get_or t i d ∷ [] → reverse ms ≡ map length (standing_at trace).marks
    → ((u : List TraceStep) → ops_of (u ++ get_or t i d ∷ []) ≡ [] → reverse ms ≡ map length (standing_at u).marks → reverse ms' ≡ map length (standing_at (u ++ get_or t i d ∷ [])).marks)
    → (trace' ≡ take (i + 1) t) × (reverse ms' ≡ map length (standing_at trace').marks)
one_more t i d below none ms ms' trace trace' is pushed are step =
    let is' : trace' ≡ take i t ++ get_or t i d ∷ [] = pushed ∙ ap (λ u. u ++ get_or t i d ∷ []) is in
    let more : take (i + 1) t ≡ take i t ++ get_or t i d ∷ [] = take_more t i d below in (
      is' ∙ sym more,
      step (take i t) (ap ops_of (sym more) ∙ taken_marks t (i + 1) none) (are ∙ ap (λ u. map length (standing_at u).marks) is) ∙ ap (λ u. map length (standing_at u).marks) (sym is'),
    )

-- ---- a book whose newest attempt has made these marks, in place of those

set_last : (xs : List Attempt) (x y : Attempt) (n : ℕ) → n ≡ length xs → set (xs ++ x ∷ []) n y ≡ xs ++ y ∷ []
set_last [] x y zero e = refl
set_last [] x y (suc n) e = absurd (omega (arith, e))
set_last (z ∷ xs) x y zero e = absurd (omega (arith, e))
set_last (z ∷ xs) x y (suc n) e = ap (λ t. z ∷ t) (set_last xs x y n (omega (arith, e)))

module _ (b : Content) (counts : Counts) (rows : List Modes) (standings : List CallState) (book : IsBook b counts rows standings) (p : List Attempt) (call number : ℕ) (old more : List TraceStep) (old_are : ops_of old ≡ []) (more_are : ops_of more ≡ [])
    (split : b.attempts ≡ p ++ marked call number old ∷ []) where
  abbrev a : Attempt
  a = marked call number old

  abbrev c : Attempt
  c = marked call number more

  abbrev S : Cells
  S = settled b.opening b.entries

  same_modes : touched more ≡ touched old
  same_modes = ap touched_by (more_are ∙ sym old_are)

  IsKept-remarked : IsKept (record b { attempts = p ++ marked call number more ∷ [] })
  IsKept-remarked =
      let here = live_here b p a [] book.kept split in
      let live : IsLive S b.begun b.entries c = record {
        known = here.known;
        numbered = here.numbered;
        uncommitted = here.uncommitted;
        replies = replies-marks more (unmarked S) more_are;
        inverses = ap (λ ops. inverses_of ops S) (sym (standing-marks more more_are));
        modes = refl;
      } in
      record {
        cells = book.kept.cells;
        defined = book.kept.defined;
        distinct = book.kept.distinct;
        each_entry = book.kept.each_entry;
        each_live = All-with (IsLive S b.begun b.entries) p c [] (live_others b p a [] book.kept split) live;
        apart = apart_with p c [] (others_apart b p a [] book.kept split)
            (subst (λ m. AllByRecursion (λ (d : Attempt). (call ≡ d.call → ⊥) × AreCompatible m d.modes) (p ++ [])) (sym same_modes) (beside b p a [] book.kept split));
        now =
            book.kept.now ∙ ap (λ xs. live_after xs S) split ∙ live_after-append p (a ∷ []) S ∙ after-marks old (live_after p S) old_are
            ∙ sym (live_after-append p (c ∷ []) S ∙ after-marks more (live_after p S) more_are);
        calls = book.kept.calls;
      }

  IsBook-remarked : IsBook (record b { attempts = p ++ marked call number more ∷ [] }) counts rows standings
  IsBook-remarked = record {
    kept = IsKept-remarked;
    counted = book.counted ∙ ap (λ xs. live_counts xs empty) split ∙ live_counts_out p a [] empty ∙ sym (live_counts_out p c [] empty);
    locked = book.locked ∙ ap (λ xs. rows_with xs (replicate (length b.begun) empty)) split ∙ same_rows p a c [] (replicate (length b.begun) empty) refl same_modes;
    standing =
        book.standing ∙ ap (λ xs. live_with 0 xs (committed_with b.entries (replicate (length b.begun) Idle))) split
        ∙ same_standing p a c [] (committed_with b.entries (replicate (length b.begun) Idle)) refl;
  }

-- the newest attempt's place
module _ (f b : Content) (call number : ℕ) (old : List TraceStep) (is : b ≡ after_begin_with f call number old) (last n : ℕ) (wide : n ≡ length b.attempts) (before : last ≡ n - 1) where
  attempts_are : b.attempts ≡ f.attempts ++ marked call number old ∷ []
  attempts_are = ap (λ (x : Content). x.attempts) is

  size : n ≡ length f.attempts + 1
  size = wide ∙ ap length attempts_are ∙ length-append f.attempts (marked call number old ∷ [])

  pub some_attempt : 1 ≤ n
  some_attempt = omega (arith, size)

  here : last ≡ length f.attempts
  here = omega (arith, before, size)

  pub below_last : last < n
  below_last = omega (arith, here, size)

  module _ (more : List TraceStep) (y : Attempt) (y_is : y ≡ marked call number more) where
    remarked : set b.attempts last y ≡ f.attempts ++ marked call number more ∷ []
    remarked = ap (λ xs. set xs last y) attempts_are ∙ set_last f.attempts (marked call number old) y last here ∙ ap (λ x. f.attempts ++ x ∷ []) y_is

    pub remarks : ◌≡◌ {A = Content} (record b { attempts = set b.attempts last y }) (after_begin_with f call number more)
    remarks = λ i. record (is i) { attempts = remarked i }

    pub IsBook-remark : (counts : Counts) (rows : List Modes) (standings : List CallState) → ops_of old ≡ [] → ops_of more ≡ [] → IsBook b counts rows standings → IsBook (record b { attempts = set b.attempts last y }) counts rows standings
    IsBook-remark counts rows standings old_are more_are book =
        subst (λ xs. IsBook (record b { attempts = xs }) counts rows standings) (sym remarked) (IsBook-remarked b counts rows standings book f.attempts call number old more old_are more_are attempts_are)

-- a begin without marks, and one with none
pub with_none : (f b : Content) (call number : ℕ) → BegunAs f b call number → b ≡ after_begin_with f call number []
with_none f b call number h = h.new_is

pub BegunWith-mark : (f b new : Content) (call number : ℕ) (marks : List TraceStep) → BegunAs f b call number → ops_of marks ≡ [] → new ≡ after_begin_with f call number marks → BegunWith f new call number marks
BegunWith-mark f b new call number marks h are is =
    record { known = h.known; not_live = h.not_live; not_committed = h.not_committed; not_passed = h.not_passed; are_marks = are; new_is = is }

pub BegunAs-unmark : (f b new : Content) (call number : ℕ) (marks : List TraceStep) → BegunWith f b call number marks → new ≡ after_begin_with f call number [] → BegunAs f new call number
BegunAs-unmark f b new call number marks h is = record { known = h.known; not_live = h.not_live; not_committed = h.not_committed; not_passed = h.not_passed; new_is = is }
