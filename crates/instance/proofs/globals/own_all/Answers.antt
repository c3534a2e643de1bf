use Rattle.std.proofs.Common.{◌∙◌}
use Rattle.instance.proofs.Standing.{none_own, stands_lent, stands_own}
use Rattle.instance.proofs.globals.own_all.Goals as goal

pub copy_all-requires-clause-none : goal.copy_all-requires-clause-none
copy_all-requires-clause-none g c = none_own c.args.own.now c.is_empty.result c.is_empty.ensures c.if-is_empty.true

pub copy_all-requires-clause-room : goal.copy_all-requires-clause-room
copy_all-requires-clause-room g c = c.requires (none_own c.args.own.now c.is_empty.result c.is_empty.ensures c.if-is_empty.true)

pub returns-then-is_empty : goal.returns-then-is_empty
returns-then-is_empty g c = c.copy_all.ensures ∙ stands_lent c.args.own.now c.is_empty.result c.is_empty.ensures c.args.lent.now c.if-is_empty.true

pub returns-else-is_empty : goal.returns-else-is_empty
returns-else-is_empty g c = stands_own c.args.own.now c.is_empty.result c.is_empty.ensures c.args.lent.now c.if-is_empty.false
