use Rattle.module_tree.specs.Modules.{module_view}
use Rattle.world.proofs.Judging.{not_typed}
use Rattle.world.proofs.judge.check_body.Goals as goal

pub returns : goal.returns
returns g c = not_typed c.one_tree.ensures c.args.body.now (module_view c.in-Some.module) (rw c.in-Some.is at c.in_ok-module.ensures) c.in-Err.refusal c.in_ok-note_untyped-in-Err.ensures c.in-Err.ensures.untyped
