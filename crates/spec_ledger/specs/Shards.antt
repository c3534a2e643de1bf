-- A book in shards: which shard a lock belongs to, and what a shard sees of traces, entries and cells (Dickerson, Gazzillo, Herlihy, Koskinen, "Adding Concurrency to Smart Contracts",
-- PODC 2017, section 3, where each object keeps its own locks and inverse logs; the shards are own).
use Rattle.std.specs.Prelude.{◌≡◌, ◌==◌, ℕ, ◌+◌, ◌%◌, ◌^◌, ◌<◌, if◌then◌else◌, List, [], ◌∷◌}
use Rattle.std.specs.FinMap.{get}
use Rattle.spec_ledger.specs.declared.Lock.{Lock}
use Rattle.spec_ledger.specs.declared.Op.{Op}
use Rattle.spec_ledger.specs.declared.TraceStep.{TraceStep}
use Rattle.spec_ledger.specs.declared.TraceStep.TheVariants.{Did, Opened, Kept, Dropped}
use Rattle.spec_ledger.specs.Cells.{Cells, lock_of}
use Rattle.spec_ledger.specs.Modes.{ops_of, touched}
use Rattle.spec_ledger.specs.Book.{CommittedCall}

-- the shard of a lock, of so many: contract and key added modulo 2^64, then modulo the number of shards; maps and counters alike
abbrev pub shard_of : ℕ → Lock → ℕ
shard_of shards lock = ((lock.contract + lock.key) % 2 ^ 64) % shards

-- each lock belongs to one of so many shards
abbrev pub IsHome : (Lock → ℕ) → ℕ → Type 0
IsHome home shards = (lock : Lock) → home lock < shards

-- a shard's part of a trace: its operations, and every mark
abbrev pub part : (Lock → ℕ) → ℕ → List TraceStep → List TraceStep
part home i [] = []
part home i (Did op r ∷ t) = if home (lock_of op) == i then Did op r ∷ part home i t else part home i t
part home i (Opened ∷ t) = Opened ∷ part home i t
part home i (Kept ∷ t) = Kept ∷ part home i t
part home i (Dropped ∷ t) = Dropped ∷ part home i t

-- an entry with this trace in place of its own
abbrev pub with_trace : CommittedCall → List TraceStep → CommittedCall
with_trace e t = record { call = e.call; trace = t; outcome = e.outcome; modes = touched t }

-- an entry with a trace of these operations before others, unless there is none
abbrev pub if_touched : List Op → CommittedCall → List CommittedCall → List CommittedCall
if_touched [] e es = es
if_touched (op ∷ ops) e es = e ∷ es

-- an entry with this trace before others, unless the trace has no operation
abbrev pub before_others : CommittedCall → List TraceStep → List CommittedCall → List CommittedCall
before_others e t es = if_touched (ops_of t) (with_trace e t) es

-- the entries that touch a shard, in order, each with that shard's part of its trace and modes, and the same outcome
abbrev pub entries_in : (Lock → ℕ) → ℕ → List CommittedCall → List CommittedCall
entries_in home i [] = []
entries_in home i (e ∷ es) = before_others e (part home i e.trace) (entries_in home i es)

-- a shard's own cells are, at its locks, those of all
abbrev pub AreCellsOf : (Lock → ℕ) → ℕ → Cells → Cells → Type 0
AreCellsOf home i all own = (lock : Lock) → home lock ≡ i → get own lock ≡ get all lock
