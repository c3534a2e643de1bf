use Rattle.std.proofs.Common.{◌≡◌, ◌+◌}
use Rattle.debugger.specs.Cursors.{IsAt, IsSameRun}
use Rattle.debugger.proofs.cursor.make_turns.Given as goal

abbrev pub invariant-loop-made : goal.invariant-loop-made
invariant-loop-made g l = record { at : IsAt l.cursor; same : IsSameRun l.fn.cursor l.cursor; made : l.cursor.machine.used ≡ l.fn.cursor.machine.used + l.made }
