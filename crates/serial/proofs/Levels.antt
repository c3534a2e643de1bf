-- One step more of a run, over its levels.
use Rattle.std.proofs.Common.{◌≡◌, ℕ, ◌≤◌, Bool, true, false, List, [], ◌∷◌, ◌++◌, length, map, reverse, take, drop, refl, sym, ◌∙◌, ap, subst, arith, length-append, append-nil}
use Rattle.std.proofs.Math.Seq.{take-append_seam, drop-append_seam}
use Rattle.std.proofs.lemmas.List.{reverse-append}
use Rattle.std.specs.FinMap.{empty}
use Rattle.spec_ledger.specs.declared.Inverse.{Inverse}
use Rattle.spec_ledger.specs.declared.Op.{Op}
use Rattle.spec_ledger.specs.declared.Reply.{Reply}
use Rattle.spec_ledger.specs.declared.TraceStep.{TraceStep}
use Rattle.spec_ledger.specs.declared.TraceStep.TheVariants.{Did, Opened, Kept, Dropped}
use Rattle.spec_ledger.specs.Cells.{AreCells, cells_after, reply_to, inverse_to}
use Rattle.spec_ledger.specs.Book.{Marked, kept_at, dropped_at, stepped, noted, ops_after, back_all, standing, standing_at, GetsReplies, inverses_of}
use Rattle.spec_ledger.proofs.Traces.{IsMark, AreFronts, fronts_of, standing_at-push, after-standing, back_all-inverses, inverses_of-append, inverses_of-length, GetsReplies-mark, AreCells-ops, ops_after-append}
use Rattle.storage.specs.Counts.{Store, AreCounts, opened, opened_all, closed_all, AreUnsettled}
use Rattle.storage.proofs.Counted.{AreCounts-empty, AreCounts-opened_all, AreUnsettled-opened_all, closed_all-opened_all, opened_all-append}
use Rattle.interp.specs.Progress.{mark_of}
use Rattle.serial.specs.Playing.{AreDone, AreSomeDone, AreDoneInLevels, MayBeLeft}
use Rattle.serial.proofs.Doing.{done_none, done_more}

pub none_in_levels : (start : Store) → start.unsettled ≡ empty → AreCells start.cells → AreDoneInLevels start [] start [] []
none_in_levels start settled are = record { settled = settled; are = are; done = done_none start; marks_are = refl }

pub some_done : (start : Store) (t : List TraceStep) (now : Store) (is : List Inverse) (ms : List ℕ) → AreDoneInLevels start t now is ms → AreSomeDone start now is
some_done start t now is ms d = record { trace = t; done = d.done }

pub may_be_left : (start : Store) (t : List TraceStep) (now : Store) (is : List Inverse) (ms : List ℕ) → AreDoneInLevels start t now is ms → MayBeLeft now is ms
may_be_left start t now is ms d = record { start = start; trace = t; done = d }

pub same_in_levels : (start now next : Store) (t u : List TraceStep) (is js : List Inverse) (ms ns : List ℕ) → u ≡ t → next ≡ now → js ≡ is → ns ≡ ms → AreDoneInLevels start t now is ms → AreDoneInLevels start u next js ns
same_in_levels start now next t u is js ms ns trace e f g d =
    subst (λ x. AreDoneInLevels start x next js ns) (sym trace)
    (subst (λ x. AreDoneInLevels start t x js ns) (sym e) (subst (λ x. AreDoneInLevels start t now x ns) (sym f) (subst (λ x. AreDoneInLevels start t now is x) (sym g) d)))

pub same_done : (start now next : Store) (t : List TraceStep) (is js : List Inverse) → next ≡ now → js ≡ is → AreDone start t now is → AreDone start t next js
same_done start now next t is js e f d = subst (λ x. AreDone start t x js) (sym e) (subst (λ x. AreDone start t now x) (sym f) d)

pushed : (t u : List TraceStep) (s : TraceStep) → u ≡ t ++ s ∷ [] → standing_at u ≡ stepped noted s (standing_at t)
pushed t u s e = ap standing_at e ∙ standing_at-push t s

-- ---- an operation

module _ (start now next : Store) (t u : List TraceStep) (is js : List Inverse) (ms : List ℕ) (op : Op) (r : Reply) (d : AreDoneInLevels start t now is ms)
    (trace : u ≡ t ++ Did op r ∷ []) (reply : r ≡ reply_to op now.cells) (cells : next.cells ≡ cells_after op now.cells)
    (unsettled : next.unsettled ≡ opened (inverse_to op now.cells) now.unsettled) (inverses : js ≡ is ++ inverse_to op now.cells ∷ []) where
  pub did_one : AreDoneInLevels start u next js ms
  did_one = record {
    settled = d.settled;
    are = d.are;
    done = done_more start now next t u is js op r d.done trace reply cells unsettled inverses;
    marks_are = d.marks_are ∙ sym (ap (λ (p : Marked (List Op)). map length p.marks) (pushed t u (Did op r) trace));
  }

-- ---- marks

-- a mark that leaves what stands
mark_more : (start now : Store) (t u : List TraceStep) (s : TraceStep) (is : List Inverse) → IsMark s → u ≡ t ++ s ∷ [] → standing u ≡ standing t → AreDone start t now is → AreDone start u now is
mark_more start now t u s is mark e same d = record {
  replies = subst (λ x. GetsReplies x start.cells) (sym e) (GetsReplies-mark t s start.cells mark d.replies);
  cells = d.cells ∙ after-standing t start.cells ∙ ap (λ ops. ops_after ops start.cells) (sym same) ∙ sym (after-standing u start.cells);
  inverses_are = d.inverses_are ∙ ap (λ ops. inverses_of ops start.cells) (sym same);
  unsettled = d.unsettled;
}

as_many : (start now : Store) (t : List TraceStep) (is : List Inverse) → AreDone start t now is → length is ≡ length (standing t)
as_many start now t is d = ap length d.inverses_are ∙ inverses_of-length (standing t) start.cells

reverse_last : (ms rest : List ℕ) (n : ℕ) → ms ≡ rest ++ n ∷ [] → reverse ms ≡ n ∷ reverse rest
reverse_last ms rest n e = ap reverse e ∙ reverse-append rest (n ∷ [])

-- the marks when the innermost is closed
module _ (rest : List ℕ) (n : ℕ) where
  one_less : (now : List Op) (xs : List (List Op)) → n ∷ reverse rest ≡ map length xs → ((kept_at now xs).now ≡ now) × (reverse rest ≡ map length (kept_at now xs).marks)
  one_less now [] e = absurd (cc)
  one_less now (x ∷ xs) e = let less : reverse rest ≡ map length xs = cc in (refl, less)

kept_none : (now : List Op) (xs : List (List Op)) → [] ≡ map length xs → ((kept_at now xs).now ≡ now) × ([] ≡ map length (kept_at now xs).marks)
kept_none now [] e = (refl, refl)
kept_none now (x ∷ xs) e = absurd (cc)

dropped_none : (now : List Op) (xs : List (List Op)) → [] ≡ map length xs → ((dropped_at now xs).now ≡ now) × ([] ≡ map length (dropped_at now xs).marks)
dropped_none now [] e = (refl, refl)
dropped_none now (x ∷ xs) e = absurd (cc)

-- what stood at the innermost mark, which is closed by a drop
pub record IsFrontOf (now : List Op) (xs : List (List Op)) (n : ℕ) (rest : List ℕ) : Type 0 where
  pub stood : List Op
  pub more : List Op
  pub split : now ≡ stood ++ more
  pub count : n ≡ length stood
  pub now_is : (dropped_at now xs).now ≡ stood
  pub marks_are : reverse rest ≡ map length (dropped_at now xs).marks

front_of : (now : List Op) (xs : List (List Op)) (n : ℕ) (rest : List ℕ) → AreFronts now xs → n ∷ reverse rest ≡ map length xs → IsFrontOf now xs n rest
front_of now [] n rest h e = absurd (cc)
front_of now (x ∷ xs) n rest h e =
    let count : n ≡ length x = cc in
    let less : reverse rest ≡ map length xs = cc in
    record { stood = x; more = h.0.0; split = h.0.1; count = count; now_is = refl; marks_are = less }

none_left : (ms : List ℕ) (n : ℕ) → n ≡ length ms → n ≡ 0 → ms ≡ []
none_left [] n size none = refl
none_left (m ∷ ms) n size none = absurd (omega (arith, size, none))

module _ (start now : Store) (t : List TraceStep) (is : List Inverse) (ms : List ℕ) (d : AreDoneInLevels start t now is ms) where
  -- a level is entered
  pub entered : (u : List TraceStep) → u ≡ t ++ Opened ∷ [] → (n : ℕ) → n ≡ length is → (ns : List ℕ) → ns ≡ ms ++ n ∷ [] → AreDoneInLevels start u now is ns
  entered u e n size ns marks =
      let at = pushed t u Opened e in
      record {
        settled = d.settled;
        are = d.are;
        done = mark_more start now t u Opened is tt e (ap (λ (p : Marked (List Op)). p.now) at) d.done;
        marks_are = reverse_last ns ms n marks ∙ ap (λ x. n ∷ x) d.marks_are
            ∙ ap (λ x. x ∷ map length (standing_at t).marks) (size ∙ as_many start now t is d.done)
            ∙ sym (ap (λ (p : Marked (List Op)). map length p.marks) at);
      }

  kept_by : (rest : List ℕ) → ((kept_at (standing t) (standing_at t).marks).now ≡ standing t) × (reverse rest ≡ map length (kept_at (standing t) (standing_at t).marks).marks)
      → AreDoneInLevels start (t ++ Kept ∷ []) now is rest
  kept_by rest h =
      let at = pushed t (t ++ Kept ∷ []) Kept refl in
      record {
        settled = d.settled;
        are = d.are;
        done = mark_more start now t (t ++ Kept ∷ []) Kept is tt refl (ap (λ (p : Marked (List Op)). p.now) at ∙ h.0) d.done;
        marks_are = h.1 ∙ sym (ap (λ (p : Marked (List Op)). map length p.marks) at);
      }

  -- the innermost level is left, with what it did
  pub kept : (keep : Bool) → keep ≡ true → (rest : List ℕ) (n : ℕ) → ms ≡ rest ++ n ∷ [] → AreDoneInLevels start (t ++ mark_of keep ∷ []) now is rest
  kept keep stands rest n e =
      subst (λ b. AreDoneInLevels start (t ++ mark_of b ∷ []) now is rest) (sym stands)
      (kept_by rest (one_less rest n (standing t) (standing_at t).marks (sym (reverse_last ms rest n e) ∙ d.marks_are)))

  kept_outside : ms ≡ [] → AreDoneInLevels start (t ++ Kept ∷ []) now is []
  kept_outside none = kept_by [] (kept_none (standing t) (standing_at t).marks (ap reverse (sym none) ∙ d.marks_are))

  dropped_at_end : standing_at (t ++ Dropped ∷ []) ≡ dropped_at (standing t) (standing_at t).marks
  dropped_at_end = pushed t (t ++ Dropped ∷ []) Dropped refl

  dropped_outside : ms ≡ [] → AreDoneInLevels start (t ++ Dropped ∷ []) now is []
  dropped_outside none =
      let h = dropped_none (standing t) (standing_at t).marks (ap reverse (sym none) ∙ d.marks_are) in
      record {
        settled = d.settled;
        are = d.are;
        done = mark_more start now t (t ++ Dropped ∷ []) Dropped is tt refl (ap (λ (p : Marked (List Op)). p.now) dropped_at_end ∙ h.0) d.done;
        marks_are = h.1 ∙ sym (ap (λ (p : Marked (List Op)). map length p.marks) dropped_at_end);
      }

  outside : (keep : Bool) → ms ≡ [] → AreDoneInLevels start (t ++ mark_of keep ∷ []) now is []
  outside true none = kept_outside none
  outside false none = dropped_outside none

  -- no level is open
  pub left_outside : (keep : Bool) (size : ℕ) → size ≡ length ms → size ≡ 0 → (rest : List ℕ) → ms ≡ rest ++ [] → AreDoneInLevels start (t ++ mark_of keep ∷ []) now is rest
  left_outside keep size sized none rest e =
      subst (λ x. AreDoneInLevels start (t ++ mark_of keep ∷ []) now is x) (sym (sym (append-nil rest) ∙ sym e ∙ none_left ms size sized none)) (outside keep (none_left ms size sized none))

  pub may_drop : AreUnsettled is now.unsettled
  may_drop = subst (AreUnsettled is) (sym (d.done.unsettled ∙ ap (opened_all is) d.settled)) (AreUnsettled-opened_all is empty AreCounts-empty)

  module _ (rest : List ℕ) (n : ℕ) (e : ms ≡ rest ++ n ∷ []) where
    front : IsFrontOf (standing t) (standing_at t).marks n rest
    front = front_of (standing t) (standing_at t).marks n rest (fronts_of t) (sym (reverse_last ms rest n e) ∙ d.marks_are)

    kept_ones : List Inverse
    kept_ones = inverses_of front.stood start.cells

    gone : List Inverse
    gone = inverses_of front.more (ops_after front.stood start.cells)

    parts : is ≡ kept_ones ++ gone
    unfolding kept_ones gone
    parts = d.done.inverses_are ∙ ap (λ ops. inverses_of ops start.cells) front.split ∙ inverses_of-append front.stood front.more start.cells

    count : n ≡ length kept_ones
    unfolding kept_ones
    count = front.count ∙ sym (inverses_of-length front.stood start.cells)

    taken : take n is ≡ kept_ones
    taken = (λ k. take (count k) (parts k)) ∙ take-append_seam kept_ones gone

    left : drop n is ≡ gone
    left = (λ k. drop (count k) (parts k)) ∙ drop-append_seam kept_ones gone

    pub within : n ≤ length is
    within = let size = ap length parts ∙ length-append kept_ones gone in omega (arith, size, count)

    left_counts : AreCounts start.unsettled → closed_all gone (opened_all (kept_ones ++ gone) start.unsettled) ≡ opened_all kept_ones start.unsettled
    left_counts counts =
        ap (closed_all gone) (opened_all-append kept_ones gone start.unsettled)
        ∙ closed_all-opened_all gone (opened_all kept_ones start.unsettled) (AreCounts-opened_all kept_ones start.unsettled counts)

    dropped_all : (next : Store) (js : List Inverse) → js ≡ take n is → next.cells ≡ back_all (drop n is) now.cells → next.unsettled ≡ closed_all (drop n is) now.unsettled
        → AreDoneInLevels start (t ++ Dropped ∷ []) next js rest
    unfolding kept_ones gone
    dropped_all next js js_are cells unsettled =
        let stands : standing (t ++ Dropped ∷ []) ≡ front.stood = ap (λ (p : Marked (List Op)). p.now) dropped_at_end ∙ front.now_is in
        let ones : js ≡ kept_ones = js_are ∙ taken in
        let before : now.cells ≡ ops_after front.more (ops_after front.stood start.cells) =
        d.done.cells ∙ after-standing t start.cells ∙ ap (λ ops. ops_after ops start.cells) front.split ∙ ops_after-append front.stood front.more start.cells in
        record {
          settled = d.settled;
          are = d.are;
          done = record {
            replies = GetsReplies-mark t Dropped start.cells tt d.done.replies;
            cells = cells ∙ (λ k. back_all (left k) (before k))
                ∙ back_all-inverses front.more (ops_after front.stood start.cells) (AreCells-ops front.stood start.cells d.are)
                ∙ ap (λ ops. ops_after ops start.cells) (sym stands) ∙ sym (after-standing (t ++ Dropped ∷ []) start.cells);
            inverses_are = ones ∙ ap (λ ops. inverses_of ops start.cells) (sym stands);
            unsettled = unsettled ∙ (λ k. closed_all (left k) ((d.done.unsettled ∙ ap (λ x. opened_all x start.unsettled) parts) k))
                ∙ left_counts (subst AreCounts (sym d.settled) AreCounts-empty) ∙ ap (λ x. opened_all x start.unsettled) (sym ones);
          };
          marks_are = front.marks_are ∙ sym (ap (λ (p : Marked (List Op)). map length p.marks) dropped_at_end);
        }

    -- the innermost level is left, and what it did is taken back
    pub dropped : (keep : Bool) → keep ≡ false → (next : Store) (js : List Inverse) → js ≡ take n is → next.cells ≡ back_all (drop n is) now.cells → next.unsettled ≡ closed_all (drop n is) now.unsettled
        → AreDoneInLevels start (t ++ mark_of keep ∷ []) next js rest
    dropped keep falls next js js_are cells unsettled =
        subst (λ b. AreDoneInLevels start (t ++ mark_of b ∷ []) next js rest) (sym falls) (dropped_all next js js_are cells unsettled)
