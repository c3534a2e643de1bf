use Rattle.module_tree.specs.Modules.{module_view}
use Rattle.typing.specs.Parts.{tree_of}
use Rattle.wblock_show.proofs.json.tell_module.Goals as goal

pub returns-in_ok-text-in-Ok : goal.returns-in_ok-text-in-Ok
returns-in_ok-text-in-Ok c = record { tree = module_view (tree_of c.in-Ok.valid); valid = c.in-Ok.ensures.valid; text_is = c.in_ok-text-in-Ok.ensures }
