-- The journal of a book in shards: the committed calls in their order, and how each call stands (Dickerson, Gazzillo, Herlihy, Koskinen, "Adding Concurrency to Smart Contracts", PODC
-- 2017, section 4; the journal is own).
use Rattle.std.specs.Prelude.{◌≡◌, refl, ℕ, ◌+◌, ◌^◌, ◌<◌, Some, List, [], ◌∷◌, ◌++◌, length, slice_get, slice_index, slice_set}
use Rattle.std.specs.Coded.{Coded, code_by, coded×, coded_list, coded_ℕ}
use Rattle.std.specs.List.{AllByRecursion}
use Rattle.spec_ledger.specs.declared.TraceStep.{TraceStep}
use Rattle.spec_ledger.specs.declared.Outcome.{Outcome}
use Rattle.spec_ledger.specs.Book.{AreDistinct, CommittedCall, call_is_new}
use Rattle.spec_ledger.specs.Codes.{coded_entry}
use Rattle.spec_ledger.specs.Modes.{touched}
use Rattle.sharding.specs.contracts.journal.CallState as standing
use Rattle.sharding.specs.declared.journal.CallState.{CallState}
use Rattle.sharding.specs.declared.journal.CallState.TheVariants.{Idle, Live, Committed}

-- the entries in their order, and for each call how it stands and how many of its attempts were begun
pub record Journal : Type 0 where
  pub entries : List CommittedCall
  pub standings : List CallState
  pub begun : List ℕ

abbrev pub journal_code : Coded Journal
journal_code =
    code_by (List CommittedCall × (List CallState × List ℕ)) (coded× (coded_list coded_entry) (coded× (coded_list standing.the_row.coded) (coded_list coded_ℕ))) (λ j. (j.entries, (j.standings, j.begun)))
    (λ p. record { entries = p.0; standings = p.1.0; begun = p.1.1 }) (λ _. refl)

-- this attempt of the call lives
abbrev pub IsLive : Journal → ℕ → ℕ → Type 0
IsLive j call number = slice_get j.standings call ≡ Some (Live number)

-- what the type of a journal keeps: no call has two entries, each entry has the joins over its trace, and just the calls that have an entry stand committed
pub record IsJournal (j : Journal) : Type 0 where
  pub distinct : AreDistinct j.entries
  pub modes : AllByRecursion (λ e. e.modes ≡ touched e.trace) j.entries
  pub committed : AllByRecursion (λ e. slice_get j.standings e.call ≡ Some Committed) j.entries
  pub only : (call : ℕ) → slice_get j.standings call ≡ Some Committed → ¬ (call_is_new call j.entries)
  pub calls : length j.begun ≡ length j.standings
  pub fits : length j.begun < 2 ^ 32

-- the journal after a begin
abbrev pub after_begin : Journal → ℕ → Journal
after_begin j call = record j {
  standings = slice_set j.standings call (Live (slice_index j.begun call));
  begun = slice_set j.begun call (slice_index j.begun call + 1);
}

-- an attempt of a call is begun: the call stands idle, and the number is that of the attempts begun before
pub record Begins (old new : Journal) (call number : ℕ) : Type 0 where
  pub idle : slice_get old.standings call ≡ Some Idle
  pub number_is : number ≡ slice_index old.begun call
  pub new_is : new ≡ after_begin old call

-- the journal after the undoing of a live attempt
abbrev pub after_undo : Journal → ℕ → Journal
after_undo j call = record j { standings = slice_set j.standings call Idle }

-- the entry of a call with this trace and outcome
abbrev pub entry_with : ℕ → List TraceStep → Outcome → CommittedCall
entry_with call trace outcome = record { call = call; trace = trace; outcome = outcome; modes = touched trace }

-- the journal after a commit: the entry is the last
abbrev pub after_commit : Journal → ℕ → List TraceStep → Outcome → Journal
after_commit j call trace outcome = record j {
  entries = j.entries ++ entry_with call trace outcome ∷ [];
  standings = slice_set j.standings call Committed;
}

-- a live attempt is committed with this trace and outcome, at this position
pub record Commits (old new : Journal) (call number : ℕ) (trace : List TraceStep) (outcome : Outcome) (position : ℕ) : Type 0 where
  pub live : IsLive old call number
  pub position_is : position ≡ length old.entries
  pub new_is : new ≡ after_commit old call trace outcome
