use Rattle.std.proofs.Common.{◌≡◌, ◌+◌, ◌<◌, ◌≤◌}
use Rattle.debugger.specs.Keeping.{IsOfRun, AreKept, next_turns}
use Rattle.debugger.proofs.session.advance.Given as goal

abbrev pub invariant-loop-made : goal.invariant-loop-made
invariant-loop-made g l = record { cursor : IsOfRun l.here l.cursor; kept : AreKept l.here l.kept; reached : l.cursor.machine.used < next_turns l.kept; further : next_turns l.fn.kept ≤ next_turns l.kept; made : l.cursor.machine.used ≡ l.fn.cursor.machine.used + l.made }
