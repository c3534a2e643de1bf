use Rattle.module_tree.specs.Modules.{module_view}
use Rattle.wblock_line.proofs.modules.read_contract.Goals as goal

pub returns-clause-refused : goal.returns-clause-refused
returns-clause-refused c = c.unlinked.ensures c.args.bytes.now (module_view c.in_ok-valid.valid.tree) c.in_ok-valid.ensures.valid (c.in-Err.ensures.says, c.in-Err.ensures.passed)
