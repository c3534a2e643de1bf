use Rattle.module_tree.specs.View.{instrs_view}
use Rattle.link.proofs.Constants.{number_some, number_none}
use Rattle.link.proofs.segments.offset_number.Goals as goal

pub returns-in-Some : goal.returns-in-Some
returns-in-Some g c =
    number_some (instrs_view c.args.offset.now.items) c.in-Some.op c.const_number.result c.in-Some.ensures c.const_number.ensures

pub returns-in-None : goal.returns-in-None
returns-in-None g c = number_none (instrs_view c.args.offset.now.items) c.in-None.ensures
