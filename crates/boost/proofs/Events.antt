-- Each event on a book whose live attempts stand in a list.
use Rattle.std.proofs.Common.{◌≡◌, ℕ, ◌+◌, ◌<◌, true, false, cond, List, [], ◌∷◌, ◌++◌, length, take, drop, get_or, set, refl, sym, ◌∙◌, ap, subst}
use Rattle.std.specs.FinMap.{empty}
use Rattle.std.specs.List.{AllByRecursion, list_any, IsDistinct}
use Rattle.std.proofs.Common.{eqb, ◌||◌, map, ◌≢◌, ◌^◌}
use Rattle.std.proofs.lemmas.Bool.{false≢true, eqb-true}
use Rattle.std.proofs.lemmas.Bool.Decides.{eqb_tells}
use Rattle.std.proofs.lemmas.Map.Steps.{length-le_from_distinct_below}
use Rattle.std.proofs.lemmas.List.{length-take-le, drop_at, length-map, append-nil, length-set, length-replicate, set-set, set-get_or}
use Rattle.std.proofs.Common.{⊎_elim, arith, replicate}
use Rattle.spec_ledger.specs.declared.Lock.{Lock}
use Rattle.spec_ledger.specs.declared.Mode.{Mode}
use Rattle.spec_ledger.specs.Modes.{Modes, mode_of, touched}
use Rattle.abstract_locks.specs.Table.{AllShare, asked, others}
use Rattle.spec_ledger.specs.declared.Op.{Op}
use Rattle.spec_ledger.specs.declared.Reply.{Reply}
use Rattle.spec_ledger.specs.declared.TraceStep.{TraceStep}
use Rattle.spec_ledger.specs.declared.Outcome.{Outcome}
use Rattle.spec_ledger.specs.declared.Inverse.{Inverse}
use Rattle.spec_ledger.specs.Cells.{Cells, lock_of, cells_after, reply_to, inverse_to}
use Rattle.spec_ledger.specs.Book.{Attempt, CommittedCall, Content, settled, IsLive, IsKept, IsEntry, AreDistinct, call_is_new, IsGranted, extended, after_op, after_undo, after_commit, entry_of, has_returned, back_all, fresh, after_begin, AreSideBySide, AreAllSideBySide}
use Rattle.spec_ledger.specs.Events.{HasNoAttempt, IsStale, BeginDone, IsFound, OpDone, IsConflict, UndoDone, CommitDone, IsOther, IsUndoneLast}
use Rattle.spec_ledger.proofs.Kept.{All-at, All-left, All-right, live_here, live_others, beside, others_apart, IsKept-op, IsKept-undo, IsKept-commit, IsKept-begin}
use Rattle.spec_ledger.proofs.Traces.{All-weaken}
use Rattle.storage.specs.Counts.{Counts, opened}
use Rattle.std.proofs.Common.{Some, slice_get}
use Rattle.std.proofs.lemmas.Option.{slice_get-get_or}
use Rattle.storage.specs.Counts.{opened_all, closed_all, AreUnsettled, AreCounts}
use Rattle.boost.specs.UnsettledCounts.{live_counts}
use Rattle.boost.specs.declared.standing.CallState.{CallState}
use Rattle.boost.specs.declared.standing.CallState.TheVariants.{Idle, Live, Committed}
use Rattle.boost.specs.BookInvariant.{IsBook, IsPlace, AreStanding, rows_with, committed_with, live_with}
use Rattle.boost.specs.AttemptNumbers.{HasTrace}
use Rattle.boost.proofs.Held.{AreBelow, no_other, rows_out, rows_with-append, length-rows_with, emptied, empty_row, own_row, share_to, share_from, touched-push}
use Rattle.boost.proofs.Standings.{found_at, none_there, wide_standings, AreStanding-book, stands_idle, stands_live, stands_committed, left_standing, still_idle, apart_right, same_standing, live_with-append, committed_with-append}
use Rattle.storage.proofs.Counted.{opened_all-push, closed_all-opened_all, AreUnsettled-opened_all, AreCounts-empty}
use Rattle.boost.proofs.Counted.{live_counts-append, live_counts_out, AreCounts-live}
use Rattle.boost.proofs.Lists.{set_split, at_split}

-- ---- the table of locks and the standings beside the attempts

module _ (b : Content) (counts : Counts) (rows : List Modes) (standings : List CallState) (book : IsBook b counts rows standings) where
  pub length-rows : length rows ≡ length b.begun
  length-rows = ap length book.locked ∙ length-rows_with b.attempts (replicate (length b.begun) empty) ∙ length-replicate (length b.begun) empty

  pub length-standings : length standings ≡ length b.begun
  length-standings = wide_standings (length b.begun) b.attempts b.entries standings book.standing

  calls_known : AreBelow (length b.begun) b.attempts
  calls_known = All-weaken (IsLive (settled b.opening b.entries) b.begun b.entries) (λ x. x.call < length b.begun) (λ x h. h.known) b.attempts book.kept.each_live

  entries_known : AllByRecursion (λ e. e.call < length b.begun) b.entries
  entries_known = All-weaken (IsEntry b.begun) (λ e. e.call < length b.begun) (λ e h. h.known) b.entries book.kept.each_entry

  pub are_standing : (xs : List Attempt) (s : List CallState) → xs ≡ b.attempts → s ≡ standings → AreStanding xs s
  are_standing xs s e f =
      let path : ◌≡◌ {A = List Attempt × List CallState} (b.attempts, standings) (xs, s) = λ i. (sym e i, sym f i) in
      let P : List Attempt × List CallState → Type 0 = λ (ys, t). AreStanding ys t in
      subst P path (AreStanding-book (length b.begun) b.attempts b.entries standings book.standing calls_known book.kept.apart)

  module _ (p : List Attempt) (a : Attempt) (q : List Attempt) (split : b.attempts ≡ p ++ a ∷ q) where
    idle_there : HasNoAttempt a.call (p ++ q)
    idle_there = no_other a (p ++ q) (beside b p a q book.kept split)

    pub known_there : a.call < length b.begun
    known_there = (live_here b p a q book.kept split).known

    others_known : AreBelow (length b.begun) (p ++ q)
    others_known = All-weaken (IsLive (settled b.opening b.entries) b.begun b.entries) (λ x. x.call < length b.begun) (λ x h. h.known) (p ++ q) (live_others b p a q book.kept split)

    rows_there : rows ≡ set (rows_with (p ++ q) (replicate (length b.begun) empty)) a.call a.modes
    rows_there =
        book.locked ∙ ap (λ ys. rows_with ys (replicate (length b.begun) empty)) split
        ∙ rows_out p a q (replicate (length b.begun) empty) (All-right (λ c. c.call ≢ a.call) p q idle_there)

    -- the attempt's locks let go
    rows_left : set rows a.call empty ≡ rows_with (p ++ q) (replicate (length b.begun) empty)
    rows_left =
        ap (λ x. set x a.call empty) rows_there
        ∙ emptied (rows_with (p ++ q) (replicate (length b.begun) empty)) a.call a.modes (empty_row a.call (length b.begun) (p ++ q) known_there idle_there)

    pub calls_left : (xs : List Attempt) (s : List CallState) → xs ≡ p ++ q → length s ≡ length standings → AllByRecursion (λ c. c.call < length s) xs
    calls_left xs s e f =
        let path : ◌≡◌ {A = ℕ × List Attempt} (length b.begun, p ++ q) (length s, xs) = λ i. (sym (f ∙ length-standings) i, sym e i) in
        let P : ℕ × List Attempt → Type 0 = λ (n, ys). AreBelow n ys in
        subst P path others_known

    -- the attempt's call stands otherwise
    standing_left : (i : ℕ) (v : CallState) → length p ≡ i → live_with i q (set standings a.call v) ≡ live_with 0 (p ++ q) (set (committed_with b.entries (replicate (length b.begun) Idle)) a.call v)
    standing_left i v e =
        ap (λ x. live_with i q (set x a.call v)) (book.standing ∙ ap (λ ys. live_with 0 ys (committed_with b.entries (replicate (length b.begun) Idle))) split)
        ∙ left_standing p a q (committed_with b.entries (replicate (length b.begun) Idle)) i v e
        (All-left (λ c. c.call ≢ a.call) p q idle_there) (All-right (λ c. c.call ≢ a.call) p q idle_there) (apart_right p q (others_apart b p a q book.kept split))

    idle_left : (i : ℕ) → length p ≡ i → live_with i q (set standings a.call Idle) ≡ live_with 0 (p ++ q) (committed_with b.entries (replicate (length b.begun) Idle))
    idle_left i e =
        standing_left i Idle e
        ∙ ap (live_with 0 (p ++ q)) (still_idle a.call (length b.begun) b.entries known_there (live_here b p a q book.kept split).uncommitted)

    abbrev IsShared : ℕ × (Lock × Mode) → Type 0
    IsShared (k, (l, m)) = AllShare (get_or rows k empty) l m (others rows k)

    granted_there : (op : Op) (k : ℕ) (l : Lock) (m : Mode) → a.call ≡ k → l ≡ lock_of op → m ≡ mode_of op
        → (AllShare (get_or rows k empty) l m (others rows k) → IsGranted a op (p ++ q)) × (IsGranted a op (p ++ q) → AllShare (get_or rows k empty) l m (others rows k))
    granted_there op k l m e f g =
        let path : ◌≡◌ {A = ℕ × (Lock × Mode)} (k, (l, m)) (a.call, (lock_of op, mode_of op)) = λ j. (sym e j, (f j, g j)) in (
          λ h. share_to (length b.begun) a (p ++ q) known_there others_known idle_there (others_apart b p a q book.kept split) rows rows_there (lock_of op) (mode_of op) (subst IsShared path h),
          λ h. subst IsShared (sym path) (share_from (length b.begun) a (p ++ q) known_there others_known idle_there (others_apart b p a q book.kept split) rows rows_there (lock_of op) (mode_of op) h),
        )

    -- the attempt's locks after one more operation
    rows_more : (op : Op) → set rows a.call (asked (get_or rows a.call empty) (lock_of op) (mode_of op)) ≡ rows_with (p ++ extended a op b.now ∷ q) (replicate (length b.begun) empty)
    rows_more op =
        ap (λ r. set rows a.call (asked r (lock_of op) (mode_of op)))
        (own_row (length b.begun) a (p ++ q) known_there others_known idle_there (others_apart b p a q book.kept split) rows rows_there (lock_of op) (mode_of op)
        ∙ (live_here b p a q book.kept split).modes)
        ∙ ap (λ x. set x a.call (asked (touched a.trace) (lock_of op) (mode_of op))) rows_there
        ∙ set-set (rows_with (p ++ q) (replicate (length b.begun) empty)) a.call a.modes (asked (touched a.trace) (lock_of op) (mode_of op))
        ∙ ap (set (rows_with (p ++ q) (replicate (length b.begun) empty)) a.call) (sym (touched-push a.trace op (reply_to op b.now)))
        ∙ sym (rows_out p (extended a op b.now) q (replicate (length b.begun) empty) (All-right (λ c. c.call ≢ a.call) p q idle_there))

-- ---- a call has one attempt at most

-- a list that is apart is split in one way at a call
only_split : (p : List Attempt) (a : Attempt) (q p' : List Attempt) (a' : Attempt) (q' : List Attempt) → AreAllSideBySide (p ++ a ∷ q) → p ++ a ∷ q ≡ p' ++ a' ∷ q' → a.call ≡ a'.call → (p ≡ p') × (a ≡ a') × (q ≡ q')
only_split [] a q [] a' q' apart e same = (refl, cc, cc)
only_split [] a q (x ∷ p') a' q' apart e same =
    let rest : q ≡ p' ++ a' ∷ q' = cc in
    absurd ((All-at (AreSideBySide a) p' a' q' (subst (AllByRecursion (AreSideBySide a)) rest apart.0)).0 same)
only_split (x ∷ p) a q [] a' q' apart e same =
    let first : x ≡ a' = cc in
    absurd ((All-at (AreSideBySide x) p a q apart.0).0 (ap (λ (y : Attempt). y.call) first ∙ sym same))
only_split (x ∷ p) a q (y ∷ p') a' q' apart e same =
    let first : x ≡ y = cc in
    let rest : p ++ a ∷ q ≡ p' ++ a' ∷ q' = cc in
    let h = only_split p a q p' a' q' apart.1 rest same in
    ((λ k. first k ∷ h.0 k), h.1, h.2)

pub found_not_stale : (b : Content) (call number : ℕ) (before : List Attempt) (a : Attempt) (later : List Attempt) → IsFound b call number before a later → ¬ (IsStale b call number)
found_not_stale b call number before a later found stale =
    All-at (λ x. ¬ ((x.call ≡ call) × (x.number ≡ number))) before a later (subst (AllByRecursion (λ x. ¬ ((x.call ≡ call) × (x.number ≡ number)))) found.among stale) (found.call_is, found.number_is)

-- ---- an attempt at its place

module _ (b : Content) (counts : Counts) (rows : List Modes) (standings : List CallState) (book : IsBook b counts rows standings) (call number i : ℕ) (xs : List Attempt) (same : xs ≡ b.attempts) (place : IsPlace xs i call number) where
  pub here : Attempt
  here = place.attempt

  pub split : b.attempts ≡ take i b.attempts ++ place.attempt ∷ drop (i + 1) b.attempts
  split = subst (λ ys. ys ≡ take i ys ++ place.attempt ∷ drop (i + 1) ys) same place.is

  pub below_here : i < length b.attempts
  below_here = subst (λ ys. i < length ys) same place.below

  pub found_here : IsFound b call number (take i b.attempts) place.attempt (drop (i + 1) b.attempts)
  found_here = record { among = split; call_is = place.call_is; number_is = place.number_is }

  -- the counts with this attempt last
  pub counts_out : counts ≡ opened_all place.attempt.inverses (live_counts (take i b.attempts ++ drop (i + 1) b.attempts) empty)
  counts_out = book.counted ∙ ap (λ ys. live_counts ys empty) split ∙ live_counts_out (take i b.attempts) place.attempt (drop (i + 1) b.attempts) empty

  pub may_close : AreUnsettled place.attempt.inverses counts
  may_close = subst (AreUnsettled place.attempt.inverses) (sym counts_out) (AreUnsettled-opened_all place.attempt.inverses _ (AreCounts-live (take i b.attempts ++ drop (i + 1) b.attempts) empty AreCounts-empty))

  pub counts_closed : closed_all place.attempt.inverses counts ≡ live_counts (take i b.attempts ++ drop (i + 1) b.attempts) empty
  counts_closed = ap (closed_all place.attempt.inverses) counts_out ∙ closed_all-opened_all place.attempt.inverses _ (AreCounts-live (take i b.attempts ++ drop (i + 1) b.attempts) empty AreCounts-empty)

  pub call_known : call < length b.begun
  call_known = subst (λ k. k < length b.begun) place.call_is (known_there b counts rows standings book (take i b.attempts) place.attempt (drop (i + 1) b.attempts) split)

  pub call_row : call < length rows
  call_row = subst (λ n. call < n) (sym (length-rows b counts rows standings book)) call_known

  pub call_standing : call < length standings
  call_standing = subst (λ n. call < n) (sym (length-standings b counts rows standings book)) call_known

  pub later_known : (xs : List Attempt) (s : List CallState) → xs ≡ take i b.attempts ++ drop (i + 1) b.attempts → length s ≡ length standings → AllByRecursion (λ c. c.call < length s) xs
  later_known = calls_left b counts rows standings book (take i b.attempts) place.attempt (drop (i + 1) b.attempts) split

  pub granted_here : (op : Op) (l : Lock) (m : Mode) → l ≡ lock_of op → m ≡ mode_of op
      → (AllShare (get_or rows call empty) l m (others rows call) → IsGranted place.attempt op (take i b.attempts ++ drop (i + 1) b.attempts))
      × (IsGranted place.attempt op (take i b.attempts ++ drop (i + 1) b.attempts) → AllShare (get_or rows call empty) l m (others rows call))
  granted_here op l m e f = granted_there b counts rows standings book (take i b.attempts) place.attempt (drop (i + 1) b.attempts) split op call l m place.call_is e f

  pub row_of : (z : Attempt) → z ≡ get_or b.attempts i z → z.call < length rows
  row_of z e = subst (λ k. k < length rows) (sym place.call_is ∙ ap (λ (x : Attempt). x.call) (at_split b.attempts i place.attempt z below_here e split)) call_row

  pub AreCounts-here : AreCounts counts
  AreCounts-here = subst AreCounts (sym book.counted) (AreCounts-live b.attempts empty AreCounts-empty)

  pub extended_here : (op : Op) (y z : Attempt) → z ≡ get_or b.attempts i z → y ≡ extended z op b.now → y ≡ extended place.attempt op b.now
  extended_here op y z e f = f ∙ ap (λ x. extended x op b.now) (sym (at_split b.attempts i place.attempt z below_here e split))

  pub conflict_here : (op : Op) → ¬ (IsGranted place.attempt op (take i b.attempts ++ drop (i + 1) b.attempts)) → IsConflict b call number op
  conflict_here op refused = record { before = take i b.attempts; attempt = place.attempt; later = drop (i + 1) b.attempts; found = found_here; refused = refused }

  pub only_here : (before : List Attempt) (a : Attempt) (later : List Attempt) → IsFound b call number before a later → (take i b.attempts ≡ before) × (place.attempt ≡ a) × (drop (i + 1) b.attempts ≡ later)
  only_here before a later found =
      only_split (take i b.attempts) place.attempt (drop (i + 1) b.attempts) before a later (subst AreAllSideBySide split book.kept.apart) (sym split ∙ found.among) (place.call_is ∙ sym found.call_is)

  pub no_conflict : (op : Op) → IsGranted place.attempt op (take i b.attempts ++ drop (i + 1) b.attempts) → ¬ (IsConflict b call number op)
  no_conflict op granted conflict =
      let h = only_here conflict.before conflict.attempt conflict.later conflict.found in
      let path : ◌≡◌ {A = Attempt × List Attempt} (place.attempt, take i b.attempts ++ drop (i + 1) b.attempts) (conflict.attempt, conflict.before ++ conflict.later) = λ k. (h.1 k, h.0 k ++ h.2 k) in
      let P : Attempt × List Attempt → Type 0 = λ (a, xs). IsGranted a op xs in
      conflict.refused (subst P path granted)

  pub not_other : (z : Attempt) → z ≡ get_or b.attempts i z → (trace : List TraceStep) → z.trace ≡ trace → ¬ (IsOther b call number trace)
  not_other z z_is trace e other =
      let h = only_here other.before other.attempt other.later other.found in
      other.other_trace (ap (λ (a : Attempt). a.trace) (sym h.1 ∙ at_split b.attempts i place.attempt z below_here z_is split) ∙ e)

  pub trace_at : (z : Attempt) → z ≡ get_or b.attempts i z → (t : List TraceStep) → t ≡ z.trace → HasTrace b call number t
  trace_at z z_is t e = record {
    before = take i b.attempts;
    attempt = place.attempt;
    later = drop (i + 1) b.attempts;
    found = found_here;
    trace_is = ap (λ (a : Attempt). a.trace) (at_split b.attempts i place.attempt z below_here z_is split) ∙ sym e;
  }

  pub kept_trace : (z : Attempt) → z ≡ get_or b.attempts i z → (trace : List TraceStep) → HasTrace b call number trace → z.trace ≡ trace
  kept_trace z z_is trace h =
      ap (λ (a : Attempt). a.trace) (sym (at_split b.attempts i place.attempt z below_here z_is split) ∙ (only_here h.before h.attempt h.later h.found).1) ∙ h.trace_is

  module _ (op : Op) (granted : IsGranted place.attempt op (take i b.attempts ++ drop (i + 1) b.attempts)) (y : Attempt) (is : y ≡ extended place.attempt op b.now) (now : Cells) (now_is : now ≡ cells_after op b.now) where
    moved : ◌≡◌ {A = Content} (record b { now = now; attempts = set b.attempts i y }) (after_op b (take i b.attempts) place.attempt (drop (i + 1) b.attempts) op)
    moved = λ k. record b { now = now_is k; attempts = (set_split b.attempts i y below_here ∙ ap (λ z. take i b.attempts ++ z ∷ drop (i + 1) b.attempts) is) k }

    pub IsBook-op : (counts' : Counts) → counts' ≡ opened (inverse_to op b.now) counts → (z : Attempt) → z ≡ get_or b.attempts i z
        → (rows' : List Modes) → rows' ≡ set rows z.call (asked (get_or rows z.call empty) (lock_of op) (mode_of op)) → IsBook (record b { now = now; attempts = set b.attempts i y }) counts' rows' standings
    IsBook-op counts' counts_is z z_is rows' rows_is = record {
      kept = subst (λ x. IsKept x) (sym moved) (IsKept-op b (take i b.attempts) place.attempt (drop (i + 1) b.attempts) book.kept split op granted);
      counted =
          counts_is ∙ ap (opened (inverse_to op b.now)) counts_out
          ∙ sym (ap (λ (x : Content). live_counts x.attempts empty) moved
          ∙ live_counts_out (take i b.attempts) (extended place.attempt op b.now) (drop (i + 1) b.attempts) empty
          ∙ opened_all-push place.attempt.inverses (inverse_to op b.now) (live_counts (take i b.attempts ++ drop (i + 1) b.attempts) empty));
      locked =
          rows_is
          ∙ ap (λ (x : Attempt). set rows x.call (asked (get_or rows x.call empty) (lock_of op) (mode_of op))) (sym (at_split b.attempts i place.attempt z below_here z_is split))
          ∙ rows_more b counts rows standings book (take i b.attempts) place.attempt (drop (i + 1) b.attempts) split op
          ∙ sym (ap (λ (x : Content). rows_with x.attempts (replicate (length b.begun) empty)) moved);
      standing =
          book.standing
          ∙ ap (λ ys. live_with 0 ys (committed_with b.entries (replicate (length b.begun) Idle))) split
          ∙ same_standing (take i b.attempts) place.attempt (extended place.attempt op b.now) (drop (i + 1) b.attempts) (committed_with b.entries (replicate (length b.begun) Idle)) refl
          ∙ sym (ap (λ (x : Content). live_with 0 x.attempts (committed_with b.entries (replicate (length b.begun) Idle))) moved);
    }

    pub OpDone-op : (reply : Reply) → reply ≡ reply_to op b.now → OpDone b (record b { now = now; attempts = set b.attempts i y }) call number op reply
    OpDone-op reply e = record {
      before = take i b.attempts;
      attempt = place.attempt;
      later = drop (i + 1) b.attempts;
      found = found_here;
      granted = granted;
      reply_is = e;
      new_is = moved;
    }

  module _ (z : Attempt) (z_is : z ≡ get_or b.attempts i z) where
    same_here : place.attempt ≡ z
    same_here = at_split b.attempts i place.attempt z below_here z_is split

    pub may_close_of : (is : List Inverse) → is ≡ z.inverses → AreUnsettled is counts
    may_close_of is e = subst (λ x. AreUnsettled x counts) (sym (e ∙ ap (λ (a : Attempt). a.inverses) (sym same_here))) may_close

    module _ (is : List Inverse) (is_is : is ≡ z.inverses) (counts' : Counts) (counts_is : counts' ≡ closed_all is counts) (rest : List Attempt) (rest_is : rest ≡ take i b.attempts ++ drop (i + 1) b.attempts)
        (rows' : List Modes) (rows_is : rows' ≡ set rows call empty)
        (v : CallState) (written : List CallState) (written_is : written ≡ set standings call v) (ys : List Attempt) (ys_is : ys ≡ rest) (standings' : List CallState) (standings_is : standings' ≡ live_with i (drop i ys) written) where
      inverses_here : is ≡ place.attempt.inverses
      inverses_here = is_is ∙ ap (λ (a : Attempt). a.inverses) (sym same_here)

      counted_here : counts' ≡ live_counts rest empty
      counted_here = counts_is ∙ ap (λ x. closed_all x counts) inverses_here ∙ counts_closed ∙ ap (λ x. live_counts x empty) (sym rest_is)

      locked_here : rows' ≡ rows_with rest (replicate (length b.begun) empty)
      locked_here =
          rows_is ∙ ap (λ k. set rows k empty) (sym place.call_is)
          ∙ rows_left b counts rows standings book (take i b.attempts) place.attempt (drop (i + 1) b.attempts) split
          ∙ ap (λ x. rows_with x (replicate (length b.begun) empty)) (sym rest_is)

      before_here : length (take i b.attempts) ≡ i
      before_here = length-take-le i b.attempts (omega (arith, below_here))

      noted_here : standings' ≡ live_with i (drop (i + 1) b.attempts) (set standings place.attempt.call v)
      noted_here =
          standings_is
          ∙ ap (λ x. live_with i x written) (ap (drop i) (ys_is ∙ rest_is) ∙ drop_at (take i b.attempts) (drop (i + 1) b.attempts) i before_here)
          ∙ ap (live_with i (drop (i + 1) b.attempts)) (written_is ∙ ap (λ k. set standings k v) (sym place.call_is))

      module _ (now : Cells) (now_is : now ≡ back_all is b.now) where
        undone : ◌≡◌ {A = Content} (record b { now = now; attempts = rest }) (after_undo b (take i b.attempts) place.attempt (drop (i + 1) b.attempts))
        undone = λ k. record b { now = (now_is ∙ ap (λ x. back_all x b.now) inverses_here) k; attempts = rest_is k }

        pub IsBook-undo : v ≡ Idle → IsBook (record b { now = now; attempts = rest }) counts' rows' standings'
        IsBook-undo idle = record {
          kept = subst (λ x. IsKept x) (sym undone) (IsKept-undo b (take i b.attempts) place.attempt (drop (i + 1) b.attempts) book.kept split);
          counted = counted_here;
          locked = locked_here;
          standing =
              noted_here
              ∙ ap (λ x. live_with i (drop (i + 1) b.attempts) (set standings place.attempt.call x)) idle
              ∙ idle_left b counts rows standings book (take i b.attempts) place.attempt (drop (i + 1) b.attempts) split i before_here
              ∙ ap (λ x. live_with 0 x (committed_with b.entries (replicate (length b.begun) Idle))) (sym rest_is);
        }

        pub UndoDone-undo : UndoDone b (record b { now = now; attempts = rest }) call number
        UndoDone-undo = record { before = take i b.attempts; attempt = place.attempt; later = drop (i + 1) b.attempts; found = found_here; new_is = undone }

      module _ (outcome : Outcome) (e : CommittedCall) (e_is : e ≡ entry_of z outcome) (entries : List CommittedCall) (entries_is : entries ≡ b.entries ++ e ∷ []) (now : Cells) (now_is : now ≡ cond (has_returned outcome) b.now (back_all is b.now)) where
        committed : ◌≡◌ {A = Content} (record b { now = now; entries = entries; attempts = rest }) (after_commit b (take i b.attempts) place.attempt (drop (i + 1) b.attempts) outcome)
        committed = λ k. record b {
          now = (now_is ∙ ap (λ x. cond (has_returned outcome) b.now (back_all x b.now)) inverses_here) k;
          entries = (entries_is ∙ ap (λ x. b.entries ++ x ∷ []) (e_is ∙ ap (λ a. entry_of a outcome) (sym same_here))) k;
          attempts = rest_is k;
        }

        call_there : call ≡ e.call
        call_there = sym (ap (λ (x : CommittedCall). x.call) e_is ∙ ap (λ (x : Attempt). x.call) (sym same_here) ∙ place.call_is)

        pub IsBook-commit : v ≡ Committed → IsBook (record b { now = now; entries = entries; attempts = rest }) counts' rows' standings'
        IsBook-commit done = record {
          kept = subst (λ x. IsKept x) (sym committed) (IsKept-commit b (take i b.attempts) place.attempt (drop (i + 1) b.attempts) book.kept split outcome);
          counted = counted_here;
          locked = locked_here;
          standing =
              noted_here
              ∙ standing_left b counts rows standings book (take i b.attempts) place.attempt (drop (i + 1) b.attempts) split i v before_here
              ∙ ap (λ x. live_with 0 (take i b.attempts ++ drop (i + 1) b.attempts) (set (committed_with b.entries (replicate (length b.begun) Idle)) place.attempt.call x)) done
              ∙ ap (λ k. live_with 0 (take i b.attempts ++ drop (i + 1) b.attempts) (set (committed_with b.entries (replicate (length b.begun) Idle)) k Committed)) (place.call_is ∙ call_there)
              ∙ ap (live_with 0 (take i b.attempts ++ drop (i + 1) b.attempts)) (sym (committed_with-append b.entries (e ∷ []) (replicate (length b.begun) Idle)))
              ∙ sym (λ k. live_with 0 (rest_is k) (committed_with (entries_is k) (replicate (length b.begun) Idle)));
        }

        pub CommitDone-commit : (trace : List TraceStep) → z.trace ≡ trace → (position : ℕ) → position ≡ length b.entries → CommitDone b (record b { now = now; entries = entries; attempts = rest }) call number trace outcome position
        CommitDone-commit trace t position p = record {
          before = take i b.attempts;
          attempt = place.attempt;
          later = drop (i + 1) b.attempts;
          found = found_here;
          same_trace = ap (λ (a : Attempt). a.trace) same_here ∙ t;
          position_is = p;
          new_is = committed;
        }

    pub other_here : (trace : List TraceStep) → ¬ (z.trace ≡ trace) → IsOther b call number trace
    other_here trace other = record {
      before = take i b.attempts;
      attempt = place.attempt;
      later = drop (i + 1) b.attempts;
      found = found_here;
      other_trace = λ e. other (ap (λ (a : Attempt). a.trace) (sym same_here) ∙ e);
    }

  pub trace_here : (y z : Attempt) → y ≡ get_or b.attempts i y → z ≡ get_or b.attempts i z → (t u : List TraceStep) → y.trace ≡ t → t ≡ u → z.trace ≡ u
  trace_here y z e f t u is also =
      ap (λ (a : Attempt). a.trace) (sym (at_split b.attempts i place.attempt z below_here f split) ∙ at_split b.attempts i place.attempt y below_here e split) ∙ is ∙ also

-- ---- how many entries there are

call_below : (q : ℕ) (es : List CommittedCall) (begun : List ℕ) → AllByRecursion (IsEntry begun) es → list_any (eqb q) (map (λ (e : CommittedCall). e.call) es) ≡ true → q < length begun
call_below q [] begun h e = absurd (false≢true e)
call_below q (x ∷ es) begun h e =
    elim (eqb q x.call) as (λ b. eqb q x.call ≡ b → (b || list_any (eqb q) (map (λ (e : CommittedCall). e.call) es)) ≡ true → q < length begun) [
      | true ↦ λ t _. subst (λ y. y < length begun) (sym (eqb-true q x.call t)) h.0.known
      | false ↦ λ _ r. call_below q es begun h.1 r
    ] refl e

apart_tells : (x y : ℕ) → y ≢ x → eqb x y ≡ false
apart_tells x y ne = ⊎_elim (λ h. absurd (ne (sym h.1))) (λ h. h.0) (eqb_tells x y)

calls_apart : (x : ℕ) (es : List CommittedCall) → call_is_new x es → AllByRecursion (λ y. eqb x y ≡ false) (map (λ (e : CommittedCall). e.call) es)
calls_apart x [] h = tt
calls_apart x (e ∷ es) h = (apart_tells x e.call h.0, calls_apart x es h.1)

distinct_calls : (es : List CommittedCall) → AreDistinct es → IsDistinct eqb (map (λ (e : CommittedCall). e.call) es)
unfolding IsDistinct
distinct_calls [] h = tt
distinct_calls (e ∷ es) h = (calls_apart e.call es h.0, distinct_calls es h.1)

-- a position fits 32 bits
pub few_entries : (b : Content) → IsKept b → length b.entries < 2 ^ 32
few_entries b kept =
    let most = length-le_from_distinct_below (map (λ (e : CommittedCall). e.call) b.entries) (length b.begun) (distinct_calls b.entries kept.distinct) (λ q e. call_below q b.entries b.begun kept.each_entry e) in
    let same : length (map (λ (e : CommittedCall). e.call) b.entries) ≡ length b.entries = simp length-map in
    let calls : length b.begun < 2 ^ 32 = kept.calls in
    omega (arith, most, same, calls)

-- ---- a begin

module _ (b : Content) (counts : Counts) (rows : List Modes) (standings : List CallState) (book : IsBook b counts rows standings) (call : ℕ) (below : call < length b.begun) where
  pub standing_below : call < length standings
  standing_below = subst (λ n. call < n) (sym (length-standings b counts rows standings book)) below

  module _ (x : CallState) (x_is : x ≡ get_or standings call x) where
    pub idle_before : x ≡ Idle → HasNoAttempt call b.attempts × call_is_new call b.entries
    idle_before e =
        stands_idle (length b.begun) b.attempts b.entries standings book.standing call below x x_is e
        (calls_known b counts rows standings book) (entries_known b counts rows standings book)

    pub live_before : (j : ℕ) → x ≡ Live j → ¬ (HasNoAttempt call b.attempts)
    live_before = stands_live (length b.begun) b.attempts b.entries standings book.standing call below x x_is

    stands : slice_get standings call ≡ Some x
    stands = slice_get-get_or standings call x standing_below ∙ ap Some (sym x_is)

    pub live_new : (j : ℕ) → x ≡ Live j → call_is_new call b.entries
    live_new j e =
        let here : slice_get standings call ≡ Some (Live j) = stands ∙ ap Some e in
        let are = are_standing b counts rows standings book b.attempts standings refl refl in
        let h = found_at (IsLive (settled b.opening b.entries) b.begun b.entries) b.attempts j (are.within call j here) book.kept.each_live in
        subst (λ k. call_is_new k b.entries) (are.called call j h.0 here h.1) h.2.uncommitted

    pub committed_alone : x ≡ Committed → HasNoAttempt call b.attempts
    committed_alone e =
        none_there b.attempts standings (are_standing b counts rows standings book b.attempts standings refl refl) call
        (λ i here. let no : Some Committed ≡ Some (Live i) = sym (stands ∙ ap Some e) ∙ here in cc)

    pub committed_before : x ≡ Committed → ¬ (call_is_new call b.entries)
    committed_before = stands_committed (length b.begun) b.attempts b.entries standings book.standing call below x x_is

  module _ (none : HasNoAttempt call b.attempts) (new : call_is_new call b.entries) (attempts : List Attempt) (begun : List ℕ) (a : Attempt) (number : ℕ)
      (n : number ≡ get_or b.begun call 0) (f : a ≡ fresh call number) (e : attempts ≡ b.attempts ++ a ∷ []) (g : begun ≡ set b.begun call (number + 1)) where
    begins : ◌≡◌ {A = Content} (record b { attempts = attempts; begun = begun }) (after_begin b call)
    begins = λ k. record b { attempts = (e ∙ ap (λ x. b.attempts ++ x ∷ []) (f ∙ ap (fresh call) n)) k; begun = (g ∙ ap (λ x. set b.begun call (x + 1)) n) k }

    pub IsBook-begin : (place : ℕ) → place ≡ length b.attempts → (standings' : List CallState) → standings' ≡ set standings call (Live place) → IsBook (record b { attempts = attempts; begun = begun }) counts rows standings'
    IsBook-begin place place_is standings' standings_is =
        let wide : length (set b.begun call (get_or b.begun call 0 + 1)) ≡ length b.begun = length-set b.begun call (get_or b.begun call 0 + 1) in
        record {
          kept = subst (λ x. IsKept x) (sym begins) (IsKept-begin b call book.kept below none new);
          counted = book.counted ∙ sym (ap (λ (x : Content). live_counts x.attempts empty) begins ∙ live_counts-append b.attempts (fresh call (get_or b.begun call 0) ∷ []) empty);
          locked =
              book.locked
              ∙ sym (ap (λ (x : Content). rows_with x.attempts (replicate (length x.begun) empty)) begins
              ∙ ap (λ m. rows_with (b.attempts ++ fresh call (get_or b.begun call 0) ∷ []) (replicate m empty)) wide
              ∙ rows_with-append b.attempts (fresh call (get_or b.begun call 0) ∷ []) (replicate (length b.begun) empty)
              ∙ ap (set (rows_with b.attempts (replicate (length b.begun) empty)) call) (sym (empty_row call (length b.begun) b.attempts below none))
              ∙ set-get_or (rows_with b.attempts (replicate (length b.begun) empty)) call empty);
          standing =
              standings_is
              ∙ (λ k. set (book.standing k) call (Live (place_is k)))
              ∙ sym (ap (λ (x : Content). live_with 0 x.attempts (committed_with x.entries (replicate (length x.begun) Idle))) begins
              ∙ ap (λ m. live_with 0 (b.attempts ++ fresh call (get_or b.begun call 0) ∷ []) (committed_with b.entries (replicate m Idle))) wide
              ∙ live_with-append 0 (length b.attempts) b.attempts (fresh call (get_or b.begun call 0) ∷ []) (committed_with b.entries (replicate (length b.begun) Idle)) (omega arith));
        }

    pub BeginDone-begin : BeginDone b (record b { attempts = attempts; begun = begun }) call number
    BeginDone-begin = record { known = below; not_live = none; not_committed = new; number_is = n; new_is = begins }

-- ---- the newest attempt undone

module _ (b : Content) (counts : Counts) (rows : List Modes) (standings : List CallState) (book : IsBook b counts rows standings) (p : List Attempt) (a : Attempt) (split : b.attempts ≡ p ++ a ∷ []) where
  rest_is : p ++ [] ≡ p
  rest_is = append-nil p

  last_out : counts ≡ opened_all a.inverses (live_counts p empty)
  last_out = book.counted ∙ ap (λ ys. live_counts ys empty) split ∙ live_counts_out p a [] empty ∙ ap (λ ys. opened_all a.inverses (live_counts ys empty)) rest_is

  pub last_may_close : (is : List Inverse) → is ≡ a.inverses → AreUnsettled is counts
  last_may_close is e = subst (λ x. AreUnsettled x counts) (sym e) (subst (AreUnsettled a.inverses) (sym last_out) (AreUnsettled-opened_all a.inverses _ (AreCounts-live p empty AreCounts-empty)))

  pub last_row : (k : ℕ) → k ≡ a.call → k < length rows
  last_row k e = subst (λ n. k < n) (sym (length-rows b counts rows standings book)) (subst (λ x. x < length b.begun) (sym e) (known_there b counts rows standings book p a [] split))

  pub last_standing : (k : ℕ) → k ≡ a.call → k < length standings
  last_standing k e = subst (λ n. k < n) (sym (length-standings b counts rows standings book)) (subst (λ x. x < length b.begun) (sym e) (known_there b counts rows standings book p a [] split))

  module _ (is : List Inverse) (is_is : is ≡ a.inverses) (counts' : Counts) (counts_is : counts' ≡ closed_all is counts) (now : Cells) (now_is : now ≡ back_all is b.now) where
    last_undone : ◌≡◌ {A = Content} (record b { now = now; attempts = p }) (after_undo b p a [])
    last_undone = λ k. record b { now = (now_is ∙ ap (λ x. back_all x b.now) is_is) k; attempts = sym rest_is k }

    pub IsBook-undo_last : (k : ℕ) → k ≡ a.call → (rows' : List Modes) → rows' ≡ set rows k empty → (standings' : List CallState) → standings' ≡ set standings k Idle → IsBook (record b { now = now; attempts = p }) counts' rows' standings'
    IsBook-undo_last k k_is rows' rows_is' standings' standings_is = record {
      kept = subst (λ x. IsKept x) (sym last_undone) (IsKept-undo b p a [] book.kept split);
      counted = counts_is ∙ ap (λ x. closed_all x counts) is_is ∙ ap (closed_all a.inverses) last_out ∙ closed_all-opened_all a.inverses _ (AreCounts-live p empty AreCounts-empty);
      locked = rows_is' ∙ ap (λ x. set rows x empty) k_is ∙ rows_left b counts rows standings book p a [] split ∙ ap (λ x. rows_with x (replicate (length b.begun) empty)) rest_is;
      standing =
          standings_is ∙ ap (λ x. set standings x Idle) k_is ∙ idle_left b counts rows standings book p a [] split (length p) refl
          ∙ ap (λ x. live_with 0 x (committed_with b.entries (replicate (length b.begun) Idle))) rest_is;
    }

    pub IsUndoneLast-undo : IsUndoneLast b (record b { now = now; attempts = p })
    IsUndoneLast-undo = record { before = p; attempt = a; among = split; new_is = last_undone }
