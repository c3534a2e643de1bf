use Rattle.std.proofs.lemmas.List.Elements.{Contains-get_or}
use Rattle.schedule.proofs.board.last_held.Goals as goal

pub bounds-left-gate : goal.bounds-left-gate
bounds-left-gate g c = c.requires _ (Contains-get_or c.args.gates.now c.loop-gate.gate-index 0 c.loop-gate-test.true)
