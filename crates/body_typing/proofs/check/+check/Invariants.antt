use Rattle.std.proofs.Common.{◌≡◌, ◌∷◌, ◌++◌, [], drop}
use Rattle.spec_typing.specs.Typing.{in_block}
use Rattle.spec_typing.specs.Principal.{run, empty}
use Rattle.module_tree.specs.View.{instrs_view}
use Rattle.body_typing.specs.CheckResults.{context_at}
use Rattle.body_typing.proofs.check.+check.Given as goal

abbrev pub invariant-check_all-loop-i : goal.invariant-check_all-loop-i
invariant-check_all-loop-i g l =
    (l.labels.items ≡ l.fn.labels.items ++ (l.fn.label ∷ []))
    × (run (in_block l.fn.label (context_at l.scope l.fn.labels.items)) (instrs_view (drop l.i-index l.body.items)) l.ops
    ≡ run (in_block l.fn.label (context_at l.scope l.fn.labels.items)) (instrs_view l.body.items) empty)
