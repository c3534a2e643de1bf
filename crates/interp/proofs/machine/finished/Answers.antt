use Rattle.std.proofs.Common.{subst}
use Rattle.spec_execution.specs.Levels.{ran}
use Rattle.interp.specs.Machine.{IsAt}
use Rattle.interp.specs.Run.{seen}
use Rattle.interp.proofs.machine.finished.Goals as goal

pub of-requires-clause-played : goal.of-requires-clause-played
of-requires-clause-played g c =
    let s = seen c.args.run in
    let m = c.requires.kept.machine in
    let over = subst (IsAt s) c.requires.ended m.at in
    ran s.first s.func s.trace c.args.outcome s.used m.opens over.run
