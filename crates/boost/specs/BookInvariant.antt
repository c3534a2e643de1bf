-- What the type of a book keeps.
use Rattle.std.specs.Prelude.{◌≡◌, ℕ, ◌+◌, ◌<◌, Some, List, [], ◌∷◌, ◌++◌, length, take, drop, replicate, slice_get, slice_set}
use Rattle.std.specs.FinMap.{empty}
use Rattle.spec_ledger.specs.Book.{Attempt, CommittedCall, Content, IsKept}
use Rattle.spec_ledger.specs.Modes.{Modes}
use Rattle.storage.specs.Counts.{Counts}
use Rattle.boost.specs.UnsettledCounts.{live_counts}
use Rattle.boost.specs.declared.standing.CallState.{CallState}
use Rattle.boost.specs.declared.standing.CallState.TheVariants.{Idle, Live, Committed}

-- the rows of a table of locks, where the call of each of these attempts holds the attempt's modes
abbrev pub rows_with : List Attempt → List Modes → List Modes
rows_with [] rows = rows
rows_with (a ∷ rest) rows = rows_with rest (slice_set rows a.call a.modes)

-- standings of calls, where the call of each of these entries is committed
abbrev pub committed_with : List CommittedCall → List CallState → List CallState
committed_with [] standings = standings
committed_with (e ∷ es) standings = committed_with es (slice_set standings e.call Committed)

-- standings of calls, where the call of each of these attempts is live at the attempt's place, the first at this one
abbrev pub live_with : ℕ → List Attempt → List CallState → List CallState
live_with place [] standings = standings
live_with place (a ∷ rest) standings = live_with (place + 1) rest (slice_set standings a.call (Live place))

-- the calls of the attempts, and no others, are live, each where its attempt stands
pub record AreStanding (attempts : List Attempt) (standings : List CallState) : Type 0 where
  pub placed : (i : ℕ) (a : Attempt) → slice_get attempts i ≡ Some a → slice_get standings a.call ≡ Some (Live i)
  pub within : (call i : ℕ) → slice_get standings call ≡ Some (Live i) → i < length attempts
  pub called : (call i : ℕ) (a : Attempt) → slice_get standings call ≡ Some (Live i) → slice_get attempts i ≡ Some a → a.call ≡ call

-- the committed entries are a serial run under the live attempts; the unsettled changes of the cells are just the inverses of the live attempts; the row of a live call in the table of locks is the modes of its attempt, and every other row is empty; and the calls stand as entries and attempts say
pub record IsBook (b : Content) (counts : Counts) (rows : List Modes) (standings : List CallState) : Type 0 where
  pub kept : IsKept b
  pub counted : counts ≡ live_counts b.attempts empty
  pub locked : rows ≡ rows_with b.attempts (replicate (length b.begun) empty)
  pub standing : standings ≡ live_with 0 b.attempts (committed_with b.entries (replicate (length b.begun) Idle))

-- the attempt of a call and a number, at a place
pub record IsPlace (attempts : List Attempt) (i call number : ℕ) : Type 0 where
  pub attempt : Attempt
  pub below : i < length attempts
  pub is : attempts ≡ take i attempts ++ attempt ∷ drop (i + 1) attempts
  pub call_is : attempt.call ≡ call
  pub number_is : attempt.number ≡ number
