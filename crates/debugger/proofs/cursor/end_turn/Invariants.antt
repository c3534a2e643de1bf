use Rattle.std.proofs.Common.{◌≡◌}
use Rattle.interp.specs.Progress.{Progress, GoesOn, depth_of}
use Rattle.debugger.specs.Cursors.{IsInTurn}
use Rattle.debugger.proofs.cursor.end_turn.Given as goal

abbrev pub invariant-loop-cursor : goal.invariant-loop-cursor
invariant-loop-cursor g l = record {
  turn : (first : Progress) → IsInTurn first l.fn.cursor → IsInTurn first l.cursor;
  start : l.cursor.start.now ≡ l.fn.cursor.start.now;
  goes_on : GoesOn l.cursor.machine.status;
}

abbrev pub decreases-loop-cursor : goal.decreases-loop-cursor
decreases-loop-cursor g l = depth_of l.cursor.machine
