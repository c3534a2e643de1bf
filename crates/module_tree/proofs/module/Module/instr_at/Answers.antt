use Rattle.module_tree.specs.ModuleView.{func_ordinals}
use Rattle.module_tree.proofs.Nodes.{node_at}
use Rattle.module_tree.proofs.module.Module.instr_at.Goals as goal

pub returns-clause-node : goal.returns-clause-node
returns-clause-node g c = node_at (func_ordinals c.in_ok-found.found.now) c.args.ordinal c.find.result c.in_ok-found.ensures.numbered c.find.ensures.carried
