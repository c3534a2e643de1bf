-- A shard: the book of its own locks, and where its entries stand in the journal of all (Dickerson, Gazzillo, Herlihy, Koskinen, "Adding Concurrency to Smart Contracts", PODC 2017,
-- section 3, where each object keeps its own locks and inverse logs; the shards are own).
use Rattle.std.specs.Prelude.{◌≡◌, ◌⊎◌, refl, ℕ, ◌<◌, ◌≤◌, List, length, slice_index}
use Rattle.std.specs.Coded.{Coded, code_by, coded×, coded_list, coded_ℕ}
use Rattle.std.specs.List.{AllByRecursion}
use Rattle.std.specs.List.Sorted.{IsStrictlyIncreasing}
use Rattle.spec_ledger.specs.declared.Op.{Op}
use Rattle.spec_ledger.specs.declared.TraceStep.{TraceStep}
use Rattle.spec_ledger.specs.Book.{Content, call_is_new}
use Rattle.spec_ledger.specs.Codes.{coded_content}
use Rattle.spec_ledger.specs.Events.{HasNoAttempt, IsConflict, IsStale}
use Rattle.boost.specs.AttemptNumbers.{BegunWith}

-- the book of a shard, and for each of its entries the position in the journal
pub record Shard : Type 0 where
  pub book : Content
  pub positions : List ℕ

abbrev pub shard_code : Coded Shard
shard_code = code_by (Content × List ℕ) (coded× coded_content (coded_list coded_ℕ)) (λ s. (s.book, s.positions)) (λ p. record { book = p.0; positions = p.1 }) (λ _. refl)

-- each entry has a position in the journal, and the positions rise
pub record IsShard (s : Shard) : Type 0 where
  pub rising : IsStrictlyIncreasing s.positions
  pub each : length s.positions ≡ length s.book.entries

-- a position that may come next: above all
abbrev pub IsNext : List ℕ → ℕ → Type 0
IsNext positions position = AllByRecursion (λ p. p < position) positions

-- the attempt lives no more: it or a later one of its call was begun here, or the call has an entry
pub record IsOver (b : Content) (call number : ℕ) : Type 0 where
  pub gone : IsStale b call number
  pub seen : (number < slice_index b.begun call) ⊎ ¬ (call_is_new call b.entries)

-- an earlier attempt of the call lives, and none of this number or a later one was begun
pub record IsBehind (b : Content) (call number : ℕ) : Type 0 where
  pub live : ¬ (HasNoAttempt call b.attempts)
  pub other : IsStale b call number
  pub later : slice_index b.begun call ≤ number

-- the book for an operation of an attempt: as it is, or with the attempt begun, where this is its first here, after the marks of levels that it made elsewhere
abbrev pub IsReady : Content → Content → ℕ → ℕ → List TraceStep → Type 0
IsReady b ready call number marks = (ready ≡ b) ⊎ BegunWith b ready call number marks

-- the operation has to wait for another attempt: one that holds the lock in a mode that does not go with the one asked for, or an earlier one of the call, which holds its locks
abbrev pub HasToWait : Content → ℕ → ℕ → List TraceStep → Op → Type 0
HasToWait b call number marks op = IsBehind b call number ⊎ ((ready : Content) × IsReady b ready call number marks × IsConflict ready call number op)
