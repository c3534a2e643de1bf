use Rattle.std.proofs.Common.{◌≡◌, drop}
use Rattle.spec_typing.specs.Principal.{run, empty}
use Rattle.module_tree.specs.View.{instrs_view}
use Rattle.body_typing.specs.CheckResults.{context_at}
use Rattle.body_typing.proofs.check.left_by.Given as goal

abbrev pub invariant-loop-i : goal.invariant-loop-i
invariant-loop-i g l =
    (l.labels.items ≡ l.fn.labels.items) × (run (context_at l.scope l.fn.labels.items) (instrs_view (drop l.i-index l.instrs)) l.ops ≡ run (context_at l.scope l.fn.labels.items) (instrs_view l.instrs) empty)
