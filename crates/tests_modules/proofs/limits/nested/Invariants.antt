use Rattle.module_tree.specs.Numbering.{Numbered}
use Rattle.module_tree.specs.View.{ordinals}
use Rattle.tests_modules.proofs.limits.nested.Given as goal

abbrev pub invariant-loop-ordinal : goal.invariant-loop-ordinal
invariant-loop-ordinal l = Numbered l.ordinal l.levels (ordinals l.body.items)

abbrev pub decreases-loop-ordinal : goal.decreases-loop-ordinal
decreases-loop-ordinal l = l.ordinal
