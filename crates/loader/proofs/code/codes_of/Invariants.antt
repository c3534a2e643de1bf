use Rattle.std.proofs.Common.{◌≡◌, ◌≤◌, true, map, drop, length}
use Rattle.std.specs.List.{list_all}
use Rattle.spec_modules.specs.Limits.{counts_from}
use Rattle.laws_modules.specs.ReadingModules.{codes_at}
use Rattle.module_tree.specs.ModuleView.{func_view, func_ordinals}
use Rattle.expr_reader.proofs.Steps.{front}
use Rattle.loader.proofs.code.codes_of.Given as goal

abbrev pub invariant-loop-index : goal.invariant-loop-index
invariant-loop-index g l =
    (front (map func_view l.funcs.items) (codes_at (drop l.index-index l.indices) l.rest) ≡ codes_at l.indices l.bytes)
    × (length l.rest ≤ length l.bytes) × (list_all (λ f. counts_from 0 (func_ordinals f)) l.funcs.items ≡ true)
