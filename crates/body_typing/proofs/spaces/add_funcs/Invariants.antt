use Rattle.std.proofs.Common.{◌≡◌, ◌++◌, take, map}
use Rattle.module_tree.specs.ModuleView.{func_view}
use Rattle.body_typing.proofs.spaces.add_funcs.Given as goal

abbrev pub invariant-loop-f : goal.invariant-loop-f
invariant-loop-f g l = l.funcs.items ≡ l.fn.funcs.items ++ map (λ f. f.type_index) (map func_view (take l.f-index l.defined.items))
