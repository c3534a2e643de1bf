-- What a step of a trace asks of a lock.
use Rattle.std.specs.Prelude.{Option, Some, if◌then◌else◌}
use Rattle.std.specs.Ordering.{eq_by_cmp}
use Rattle.spec_ledger.specs.declared.Lock.{Lock}
use Rattle.spec_ledger.specs.declared.Mode.{Mode}
use Rattle.spec_ledger.specs.declared.TraceStep.{TraceStep}
use Rattle.spec_ledger.specs.declared.TraceStep.TheVariants.{Did, Opened, Kept, Dropped}
use Rattle.spec_ledger.specs.Cells.{lock_cmp, lock_of}
use Rattle.spec_ledger.specs.Modes.{mode_of, join_held}

-- what is held of a lock after a step: an operation at it joins its mode, and a mark changes nothing
abbrev pub asked_by : Lock → TraceStep → Option Mode → Option Mode
asked_by lock (Did op r) held = if eq_by_cmp lock_cmp lock (lock_of op) then Some (join_held (mode_of op) held) else held
asked_by lock Opened held = held
asked_by lock Kept held = held
asked_by lock Dropped held = held
