use Rattle.module_tree.specs.Modules.{module_view}
use Rattle.typing.specs.Parts.{tree_of}
use Rattle.world.proofs.Judging.{not_linked}
use Rattle.world.proofs.judge.link_body.Goals as goal

pub returns : goal.returns
returns g c = not_linked c.one_tree.ensures c.refused_is_not_linked.ensures c.args.body.now (module_view (tree_of c.in-Some.valid)) (rw c.in-Some.is at c.in_ok-valid.ensures) c.in-Err.refusal c.in_ok-note_unlinked-in-Err.ensures c.in-Err.ensures.says
