use Rattle.std.proofs.Common.{◌≡◌, map, drop}
use Rattle.module_tree.specs.ModuleView.{func_type_view}
use Rattle.text_resolve.specs.Lookup.{first_at}
use Rattle.text_resolve.proofs.Lookups.{shifted}
use Rattle.text_resolve.specs.Types.{same_func, first_type}
use Rattle.text_resolve.proofs.types.first_type.Given as goal

abbrev pub invariant-loop-own : goal.invariant-loop-own
invariant-loop-own g l =
    first_type (func_type_view l.wanted) (map func_type_view l.types.items) ≡ shifted l.next (first_at (λ u. same_func u (func_type_view l.wanted)) (map func_type_view (drop l.own-index l.types.items)))
