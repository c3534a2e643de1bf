-- Attempts whose numbers are given to the book, and what a live attempt has done.
use Rattle.std.specs.Prelude.{◌≡◌, ℕ, ◌+◌, ◌<◌, ◌≤◌, List, [], ◌∷◌, ◌++◌, length, slice_index, slice_set}
use Rattle.spec_ledger.specs.declared.TraceStep.{TraceStep}
use Rattle.spec_ledger.specs.Modes.{ops_of, touched}
use Rattle.spec_ledger.specs.Book.{Attempt, Content, call_is_new, fresh}
use Rattle.spec_ledger.specs.Events.{HasNoAttempt, IsFound}

-- the content after a begin under this number
abbrev pub after_begin_as : Content → ℕ → ℕ → Content
after_begin_as b call number = record b {
  attempts = b.attempts ++ fresh call number ∷ [];
  begun = slice_set b.begun call (number + 1);
}

-- an attempt of a call is begun under a number that is not below the count of those begun: the call is known, and neither live nor committed
pub record BegunAs (old new : Content) (call number : ℕ) : Type 0 where
  pub known : call < length old.begun
  pub not_live : HasNoAttempt call old.attempts
  pub not_committed : call_is_new call old.entries
  pub not_passed : slice_index old.begun call ≤ number
  pub new_is : new ≡ after_begin_as old call number

-- an attempt that has made these marks of levels, and has nothing to take back
abbrev pub marked : ℕ → ℕ → List TraceStep → Attempt
marked call number marks = record { call = call; number = number; trace = marks; modes = touched marks; inverses = [] }

-- the content after a begin under this number, with these marks
abbrev pub after_begin_with : Content → ℕ → ℕ → List TraceStep → Content
after_begin_with b call number marks = record b {
  attempts = b.attempts ++ marked call number marks ∷ [];
  begun = slice_set b.begun call (number + 1);
}

-- such an attempt is begun, and has made these marks, no operation among them
pub record BegunWith (old new : Content) (call number : ℕ) (marks : List TraceStep) : Type 0 where
  pub known : call < length old.begun
  pub not_live : HasNoAttempt call old.attempts
  pub not_committed : call_is_new call old.entries
  pub not_passed : slice_index old.begun call ≤ number
  pub are_marks : ops_of marks ≡ []
  pub new_is : new ≡ after_begin_with old call number marks

-- the call is neither live nor committed, and its number is below the count of attempts begun
pub record IsPassed (b : Content) (call number : ℕ) : Type 0 where
  pub not_live : HasNoAttempt call b.attempts
  pub not_committed : call_is_new call b.entries
  pub passed : number < slice_index b.begun call

-- the live attempt of this call and number has done these steps
pub record HasTrace (b : Content) (call number : ℕ) (trace : List TraceStep) : Type 0 where
  pub before : List Attempt
  pub attempt : Attempt
  pub later : List Attempt
  pub found : IsFound b call number before attempt later
  pub trace_is : attempt.trace ≡ trace
