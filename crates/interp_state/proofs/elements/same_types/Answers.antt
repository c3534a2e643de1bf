use Rattle.interp_state.proofs.Differing.{not_as_long}
use Rattle.interp_state.proofs.elements.same_types.Goals as goal

pub returns-then-a-b : goal.returns-then-a-b
returns-then-a-b c = not_as_long c.args.a.now c.args.b.now c.if-a-b.true
