use Rattle.interp_state.proofs.Entering.{comes_after, comes_settled}
use Rattle.interp_state.proofs.waiting.settle_all.Goals as goal

pub returns-then-is_some-clause-comes : goal.returns-then-is_some-clause-comes
returns-then-is_some-clause-comes g c = λ k args b waits.
    comes_after k args b c.args.parts.now c.settle.new.parts c.enter_last.new.parts c.args.waiting.now c.enter_last.new.waiting (c.settle.ensures.settles k b) (c.enter_last.ensures.comes k args b waits)

pub returns-else-is_empty-clause-comes : goal.returns-else-is_empty-clause-comes
returns-else-is_empty-clause-comes g c = λ k args b waits. comes_settled k args b c.args.parts.now c.settle.new.parts c.args.waiting.now (c.settle.ensures.settles k b) waits
