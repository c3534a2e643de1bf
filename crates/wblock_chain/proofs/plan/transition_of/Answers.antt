use Rattle.wblock_chain.proofs.Planning.{none_beside, without_world}
use Rattle.wblock_chain.proofs.plan.transition_of.Goals as goal

pub returns-in-Done-clause-same : goal.returns-in-Done-clause-same
returns-in-Done-clause-same c = without_world c.args.answer c.in-Done.writes c.in-Done.text c.new.result c.in-Done.is

pub returns-in-Done-clause-beside : goal.returns-in-Done-clause-beside
returns-in-Done-clause-beside c = none_beside c.args.answer c.in-Done.writes c.in-Done.text c.in-Done.is
