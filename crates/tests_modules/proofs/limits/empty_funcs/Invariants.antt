use Rattle.std.proofs.Common.{◌≡◌, true, map}
use Rattle.module_tree.specs.ModuleView.{all_numbered, func_ordinals}
use Rattle.tests_modules.proofs.limits.empty_funcs.Given as goal

abbrev pub invariant-loop : goal.invariant-loop
invariant-loop l = all_numbered (map func_ordinals l.funcs.items) ≡ true
