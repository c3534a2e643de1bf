use Rattle.module_tree.specs.View.{ordinals}
use Rattle.module_tree.specs.Numbering.{numbered_counts}
use Rattle.expr_reader.proofs.expr.expression_of.Goals as goal

pub returns-clause-numbered : goal.returns-clause-numbered
returns-clause-numbered g c = numbered_counts 0 c.in_ok-body._next (ordinals c.in_ok-body.body.items) c.in_ok-body.ensures.numbered
