use Rattle.text_resolve.proofs.Alike.{not_as_long}
use Rattle.text_resolve.proofs.types.same_list.Goals as goal

pub returns-then-a-b : goal.returns-then-a-b
returns-then-a-b c = not_as_long c.args.a.now c.args.b.now c.if-a-b.true
