use Rattle.std.proofs.Common.{◌∙◌}
use Rattle.instance.proofs.Standing.{stands_lent, stands_own}
use Rattle.instance.proofs.globals.values_in.Goals as goal

pub returns-then-is_empty : goal.returns-then-is_empty
returns-then-is_empty g c = stands_lent c.args.own.now c.is_empty.result c.is_empty.ensures c.args.lent.now c.if-is_empty.true

pub returns : goal.returns
returns g c = c.as_slice.ensures.value ∙ stands_own c.args.own.now c.is_empty.result c.is_empty.ensures c.args.lent.now c.if-is_empty.false
