-- A begin under a number that is given, and a begin taken back.
use Rattle.std.proofs.Common.{◌≡◌, ◌≢◌, ℕ, ◌+◌, ◌-◌, ◌<◌, Option, Some, slice_get, option_to_list, ◌≤◌, ◌^◌, List, [], ◌∷◌, ◌++◌, length, get_or, set, replicate, refl, sym, ◌∙◌, ap, subst, arith}
use Rattle.std.proofs.lemmas.List.{append-nil, append_cancel_right, get_or-set_other, get_or-set_same, length-append, length-set, set-get_or, set-set}
use Rattle.std.proofs.lemmas.Option.{slice_get_within, get_or_from_slice_get}
use Rattle.std.specs.FinMap.{empty}
use Rattle.spec_ledger.specs.declared.Inverse.{Inverse}
use Rattle.spec_ledger.specs.declared.TraceStep.{TraceStep}
use Rattle.spec_ledger.specs.Cells.{Cells}
use Rattle.spec_ledger.specs.Modes.{Modes}
use Rattle.spec_ledger.specs.Book.{Attempt, Content, settled, IsLive, IsKept, IsEntry, call_is_new, fresh}
use Rattle.spec_ledger.specs.Events.{HasNoAttempt, BeginDone, IsStale, IsOther}
use Rattle.spec_ledger.proofs.Kept.{All-both, beside, live_here}
use Rattle.spec_ledger.proofs.Traces.{All-weaken}
use Rattle.storage.specs.Counts.{Counts}
use Rattle.boost.specs.declared.standing.CallState.{CallState}
use Rattle.boost.specs.declared.standing.CallState.TheVariants.{Idle, Live}
use Rattle.boost.specs.BookInvariant.{IsBook, rows_with, committed_with, live_with}
use Rattle.boost.specs.AttemptNumbers.{after_begin_as, BegunAs, HasTrace}
use Rattle.boost.proofs.Held.{no_other}
use Rattle.boost.proofs.Events.{IsBook-begin, IsBook-undo_last, found_not_stale, known_there}

-- ---- another count of a call's attempts

abbrev with_count : Content → ℕ → ℕ → Content
with_count b call n = record b { begun = set b.begun call n }

IsKept-count : (b : Content) (call n : ℕ) → HasNoAttempt call b.attempts → IsKept b → IsKept (with_count b call n)
IsKept-count b call n none kept =
    let S : Cells = settled b.opening b.entries in
    record {
      cells = kept.cells;
      defined = kept.defined;
      distinct = kept.distinct;
      each_entry = All-weaken (IsEntry b.begun) (IsEntry (set b.begun call n)) (λ e h. record { known = subst (λ m. e.call < m) (sym (length-set b.begun call n)) h.known; modes = h.modes }) b.entries kept.each_entry;
      each_live = All-weaken (λ c. (c.call ≢ call) × IsLive S b.begun b.entries c) (IsLive S (set b.begun call n) b.entries) (λ c (ne, h). record {
        known = subst (λ m. c.call < m) (sym (length-set b.begun call n)) h.known;
        numbered = subst (λ m. c.number < m) (sym (get_or-set_other b.begun call c.call n 0 ne)) h.numbered;
        uncommitted = h.uncommitted;
        replies = h.replies;
        inverses = h.inverses;
        modes = h.modes;
      }) b.attempts (All-both (λ c. c.call ≢ call) (IsLive S b.begun b.entries) b.attempts none kept.each_live);
      apart = kept.apart;
      now = kept.now;
      calls = subst (λ m. m < 2 ^ 32) (sym (length-set b.begun call n)) kept.calls;
    }

IsBook-count : (b : Content) (counts : Counts) (rows : List Modes) (standings : List CallState) → IsBook b counts rows standings → (call n : ℕ) → HasNoAttempt call b.attempts → IsBook (with_count b call n) counts rows standings
IsBook-count b counts rows standings book call n none = record {
  kept = IsKept-count b call n none book.kept;
  counted = book.counted;
  locked = book.locked ∙ ap (λ m. rows_with b.attempts (replicate m empty)) (sym (length-set b.begun call n));
  standing = book.standing ∙ ap (λ m. live_with 0 b.attempts (committed_with b.entries (replicate m Idle))) (sym (length-set b.begun call n));
}

-- ---- a begin under a number

module _ (b : Content) (counts : Counts) (rows : List Modes) (standings : List CallState) (book : IsBook b counts rows standings) (call : ℕ) (below : call < length b.begun) (none : HasNoAttempt call b.attempts) (new : call_is_new call b.entries)
    (attempts : List Attempt) (begun : List ℕ) (a : Attempt) (number : ℕ) (f : a ≡ fresh call number) (e : attempts ≡ b.attempts ++ a ∷ []) (g : begun ≡ set b.begun call (number + 1)) where
  pub IsBook-begin_as : (place : ℕ) → place ≡ length b.attempts → (standings' : List CallState) → standings' ≡ set standings call (Live place) → IsBook (record b { attempts = attempts; begun = begun }) counts rows standings'
  IsBook-begin_as =
      IsBook-begin (with_count b call number) counts rows standings (IsBook-count b counts rows standings book call number none) call (subst (λ m. call < m) (sym (length-set b.begun call number)) below) none new
      attempts begun a number (sym (get_or-set_same b.begun call number 0 below)) f e (g ∙ sym (set-set b.begun call number (number + 1)))

  pub BegunAs-begin_as : get_or b.begun call 0 ≤ number → BegunAs b (record b { attempts = attempts; begun = begun }) call number
  BegunAs-begin_as from = record {
    known = below;
    not_live = none;
    not_committed = new;
    not_passed = from;
    new_is = λ k. record b { attempts = (e ∙ ap (λ x. b.attempts ++ x ∷ []) f) k; begun = g k };
  }

pub BeginDone-as : (old new : Content) (call number : ℕ) → number ≡ get_or old.begun call 0 → BegunAs old new call number → BeginDone old new call number
BeginDone-as old new call number e h = record {
  known = h.known;
  not_live = h.not_live;
  not_committed = h.not_committed;
  number_is = e;
  new_is = h.new_is ∙ ap (after_begin_as old call) e;
}

-- ---- the begin of the newest attempt taken back

-- the newest attempt, which a pop takes
pub split_last : (xs p : List Attempt) (o : Option Attempt) (n : ℕ) (z : Attempt) → n ≡ length xs → xs ≡ p ++ option_to_list o → ((d : Attempt) → 0 < n → o ≡ Some (get_or xs (n - 1) d))
    → Some z ≡ slice_get xs (length xs - 1) → xs ≡ p ++ z ∷ []
split_last xs p o n z wide items value last =
    let below = slice_get_within xs (length xs - 1) z (sym last) in
    let here : get_or xs (n - 1) z ≡ z = ap (λ k. get_or xs (k - 1) z) wide ∙ get_or_from_slice_get xs (length xs - 1) z z (sym last) in
    items ∙ ap (λ y. p ++ option_to_list y) (value z (omega (arith, below, wide)) ∙ ap (λ y. Some y) here)

module _ (b : Content) (counts : Counts) (rows : List Modes) (standings : List CallState) (book : IsBook b counts rows standings) (p : List Attempt) (a : Attempt) (split : b.attempts ≡ p ++ a ∷ []) (call number : ℕ) (a_is : a ≡ fresh call number) where
  of_call : a.call ≡ call
  of_call = ap (λ (x : Attempt). x.call) a_is

  pub known_call : call < length b.begun
  known_call = subst (λ k. k < length b.begun) of_call (known_there b counts rows standings book p a [] split)

  pub counted_past : number < get_or b.begun call 0
  counted_past = subst (λ (x : Attempt). x.number < get_or b.begun x.call 0) a_is (live_here b p a [] book.kept split).numbered

  none_left : HasNoAttempt call p
  none_left =
      let path : ◌≡◌ {A = ℕ × List Attempt} (a.call, p ++ []) (call, p) = λ i. (of_call i, append-nil p i) in
      let P : ℕ × List Attempt → Type 0 = λ (k, xs). HasNoAttempt k xs in
      subst P path (no_other a (p ++ []) (beside b p a [] book.kept split))

  module _ (count : ℕ) where
    pub IsBook-unbegin : (rows' : List Modes) → rows' ≡ set rows call empty → (standings' : List CallState) → standings' ≡ set standings call Idle → (begun : List ℕ) → begun ≡ set b.begun call count → IsBook (record b { attempts = p; begun = begun }) counts rows' standings'
    IsBook-unbegin rows' rows_is standings' standings_is begun begun_is =
        let nothing : ◌≡◌ {A = List Inverse} [] a.inverses = ap (λ (x : Attempt). x.inverses) (sym a_is) in
        let undone : IsBook (record b { attempts = p }) counts rows' standings' =
        IsBook-undo_last b counts rows standings book p a split [] nothing counts refl b.now refl call (sym of_call) rows' rows_is standings' standings_is in
        subst (λ x. IsBook (record b { attempts = p; begun = x }) counts rows' standings') (sym begun_is) (IsBook-count (record b { attempts = p }) counts rows' standings' undone call count none_left)

    pub BegunAs-unbegin : (begun : List ℕ) → begun ≡ set b.begun call count → count ≤ number → get_or b.begun call 0 ≡ number + 1 → BegunAs (record b { attempts = p; begun = begun }) b call number × (get_or begun call 0 ≡ count)
    BegunAs-unbegin begun begun_is from was =
        let here : get_or begun call 0 ≡ count = ap (λ x. get_or x call 0) begun_is ∙ get_or-set_same b.begun call count 0 known_call in
        let back : set begun call (number + 1) ≡ b.begun =
        ap (λ x. set x call (number + 1)) begun_is ∙ set-set b.begun call count (number + 1) ∙ ap (set b.begun call) (sym was) ∙ set-get_or b.begun call 0 in (
          record {
            known = subst (λ m. call < m) (sym (ap length begun_is ∙ length-set b.begun call count)) known_call;
            not_live = none_left;
            not_committed = subst (λ k. call_is_new k b.entries) of_call (live_here b p a [] book.kept split).uncommitted;
            not_passed = subst (λ x. x ≤ number) (sym here) from;
            new_is = λ k. record b { attempts = (split ∙ ap (λ x. p ++ x ∷ []) a_is) k; begun = sym back k };
          },
          here,
        )

-- the counts before a begin, from those after it
counts_before : (f b : Content) (call number count : ℕ) → BegunAs f b call number → get_or f.begun call 0 ≡ count → f.begun ≡ set b.begun call count
counts_before f b call number count h e =
    sym (set-get_or f.begun call 0) ∙ ap (set f.begun call) e ∙ sym (set-set f.begun call (number + 1) count) ∙ ap (λ (x : Content). set x.begun call count) (sym h.new_is)

-- a book and a count have one book before the begin
pub only_former : (f g b : Content) (call number count : ℕ) → BegunAs f b call number → BegunAs g b call number → get_or f.begun call 0 ≡ count → get_or g.begun call 0 ≡ count → f ≡ g
only_former f g b call number count h k e d =
    let same : after_begin_as f call number ≡ after_begin_as g call number = sym h.new_is ∙ k.new_is in
    let counts : f.begun ≡ g.begun = counts_before f b call number count h e ∙ sym (counts_before g b call number count k d) in
    let attempts : f.attempts ≡ g.attempts = append_cancel_right f.attempts g.attempts (fresh call number ∷ []) (ap (λ (x : Content). x.attempts) same) in
    λ i. record { opening = ap (λ (x : Content). x.opening) same i; now = ap (λ (x : Content). x.now) same i; entries = ap (λ (x : Content). x.entries) same i; attempts = attempts i; begun = counts i }

-- what a begin leaves
pub newest : (f b : Content) (call number : ℕ) → BegunAs f b call number → b.attempts ≡ f.attempts ++ fresh call number ∷ []
newest f b call number h = ap (λ (x : Content). x.attempts) h.new_is

pub counted_once : (f b : Content) (call number : ℕ) → BegunAs f b call number → get_or b.begun call 0 ≡ number + 1
counted_once f b call number h = ap (λ (x : Content). get_or x.begun call 0) h.new_is ∙ get_or-set_same f.begun call (number + 1) 0 h.known

pub not_none : (f b : Content) (call number : ℕ) → BegunAs f b call number → b.attempts ≡ [] → ⊥
not_none f b call number h e =
    let long : length (f.attempts ++ fresh call number ∷ []) ≡ 0 = ap length (sym (newest f b call number h) ∙ e) in
    omega (arith, long, length-append f.attempts (fresh call number ∷ []))

-- ---- the trace of a live attempt

pub trace_not_stale : (b : Content) (call number : ℕ) (trace : List TraceStep) → HasTrace b call number trace → ¬ (IsStale b call number)
trace_not_stale b call number trace h = found_not_stale b call number h.before h.attempt h.later h.found

pub other_trace : (b : Content) (call number : ℕ) (kept trace : List TraceStep) → HasTrace b call number kept → ¬ (kept ≡ trace) → IsOther b call number trace
other_trace b call number kept trace h ne = record { before = h.before; attempt = h.attempt; later = h.later; found = h.found; other_trace = λ e. ne (sym h.trace_is ∙ e) }
