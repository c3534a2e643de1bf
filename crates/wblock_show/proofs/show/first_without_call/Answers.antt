use Rattle.wblock_show.proofs.Calls.{all_named, named_more}
use Rattle.wblock_show.proofs.show.first_without_call.Goals as goal

pub loop-at-preserved : goal.loop-at-preserved
loop-at-preserved c = named_more c.args.calls.now c.args.positions.now c.loop-at.at c.call.result c.index-positions-at.result c.loop-at-test.true c.index-positions-at.is c.call.ensures c.if-call-calls.false c.loop-at.invariant

pub returns-clause-none : goal.returns-clause-none
returns-clause-none c = all_named c.args.calls.now c.args.positions.now c.loop-at.at c.loop-at-test.false c.loop-at.invariant
