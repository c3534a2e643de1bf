use Rattle.std.proofs.Common.{◌≡◌}
use Rattle.wblock_commands.specs.Runs.{numbers_from}
use Rattle.wblock_commands.proofs.runs.rising_order.Given as goal
use Rattle.std.specs.Prelude.{drop, ◌++◌}

abbrev pub invariant-loop-call : goal.invariant-loop-call
invariant-loop-call l = (l.number ≡ l._call-index) × (l.order.items ++ numbers_from l.number (drop l._call-index l.calls) ≡ numbers_from 0 l.calls)
