use Rattle.std.proofs.Common.{◌≡◌, map, take}
use Rattle.module_tree.specs.ModuleView.{global_view}
use Rattle.spec_execution.specs.Configuration.{constant}
use Rattle.link.proofs.globals.values_of.Given as goal

abbrev pub invariant-loop-global : goal.invariant-loop-global
invariant-loop-global g l = l.values.items ≡ map (λ x. constant x.init) (map global_view (take l.global-index l.declared))
