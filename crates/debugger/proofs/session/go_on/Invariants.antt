use Rattle.std.proofs.Common.{◌≡◌, ◌<◌, ◌≤◌, ◌-◌, false}
use Rattle.std.specs.Prelude.{◌⊎◌}
use Rattle.debugger.specs.Breaks.{is_set_at}
use Rattle.debugger.specs.SessionView.{SessionView, IsSessionView, break_place_at}
use Rattle.debugger.specs.Keeping.{IsOfRun, AreKept, next_turns, seen_at}
use Rattle.debugger.specs.Commands as commands
use Rattle.debugger.proofs.session.go_on.Given as goal

abbrev pub invariant-loop-cursor : goal.invariant-loop-cursor
invariant-loop-cursor g l = record {
  cursor : IsOfRun l.here l.cursor;
  kept : AreKept l.here l.kept;
  reached : l.cursor.machine.used < next_turns l.kept;
  further : next_turns l.fn.kept ≤ next_turns l.kept;
  moved : (l.fn.cursor.machine.used < l.cursor.machine.used) ⊎ (l.cursor ≡ l.fn.cursor);
  none : (u : SessionView) → IsSessionView u → commands.IsSameRun (seen_at l.here) u → l.fn.cursor.machine.used < u.turns → u.turns ≤ l.cursor.machine.used → is_set_at l.breaks (break_place_at u) ≡ false;
}

abbrev pub decreases-loop-cursor : goal.decreases-loop-cursor
decreases-loop-cursor g l = l.cursor.machine.call.fuel - l.cursor.machine.used
