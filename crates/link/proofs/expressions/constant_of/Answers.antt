use Rattle.module_tree.specs.View.{instrs_view}
use Rattle.link.proofs.Values.{value_some, value_none}
use Rattle.link.proofs.expressions.constant_of.Goals as goal

pub returns-in-Some : goal.returns-in-Some
returns-in-Some g c =
    value_some (instrs_view c.args.expression.now.items) c.in-Some.op c.value_of_const.result c.in-Some.ensures c.value_of_const.ensures

pub returns-in-None : goal.returns-in-None
returns-in-None g c = value_none (instrs_view c.args.expression.now.items) c.in-None.ensures
