use Rattle.std.proofs.Common.{◌≡◌, take}
use Rattle.schedule.specs.Graph.{gathered}
use Rattle.schedule.proofs.gates.all_behind.Given as goal

abbrev pub invariant-loop-gate : goal.invariant-loop-gate
invariant-loop-gate g l = l.list.items ≡ gathered l.behind (take l.gate-index l.gates)
