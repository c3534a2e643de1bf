use Rattle.std.proofs.Common.{map}
use Rattle.module_tree.specs.View.{instrs_view}
use Rattle.module_tree.specs.ModuleView.{global_type_view}
use Rattle.typing.proofs.Constants.{constant_some, constant_none}
use Rattle.typing.proofs.uses.is_constant.Goals as goal

pub returns-in-None : goal.returns-in-None
returns-in-None g c =
    constant_none (map global_type_view c.args.imported.now) (instrs_view c.args.init.now.items) c.args.t c.in-None.ensures

pub returns-in-Some : goal.returns-in-Some
returns-in-Some g c =
    constant_some (map global_type_view c.args.imported.now) (instrs_view c.args.init.now.items) c.args.t c.in-Some.op c.is_constant_op.result c.in-Some.ensures c.is_constant_op.ensures
