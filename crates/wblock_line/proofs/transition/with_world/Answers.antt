use Rattle.wblock_line.proofs.Leaving.{leaves}
use Rattle.wblock_line.proofs.transition.with_world.Goals as goal

pub returns-in_ok-writes-in-Done-clause-answer : goal.returns-in_ok-writes-in-Done-clause-answer
returns-in_ok-writes-in-Done-clause-answer c = leaves c.args.transition c.in-Done.change _ c.in-Done.is c.in_ok-writes-in-Done.ensures
