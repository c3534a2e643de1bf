-- The steps of a trace that a shard sees.
use Rattle.std.specs.Prelude.{◌==◌, ℕ, Bool, true, false}
use Rattle.spec_ledger.specs.declared.Lock.{Lock}
use Rattle.spec_ledger.specs.declared.TraceStep.{TraceStep}
use Rattle.spec_ledger.specs.declared.TraceStep.TheVariants.{Did, Opened, Kept, Dropped}
use Rattle.spec_ledger.specs.Cells.{lock_of}

-- whether a step is an operation at a lock of the shard
abbrev pub asks_at : (Lock → ℕ) → ℕ → TraceStep → Bool
asks_at home i (Did op r) = home (lock_of op) == i
asks_at home i Opened = false
asks_at home i Kept = false
asks_at home i Dropped = false

-- whether the shard's part of a trace has a step: its operations, and every mark
abbrev pub is_seen : (Lock → ℕ) → ℕ → TraceStep → Bool
is_seen home i (Did op r) = home (lock_of op) == i
is_seen home i Opened = true
is_seen home i Kept = true
is_seen home i Dropped = true
