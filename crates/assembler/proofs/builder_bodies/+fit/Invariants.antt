use Rattle.std.proofs.Common.{◌≡◌, drop}
use Rattle.spec_modules.specs.Limits as limit
use Rattle.module_tree.specs.View.{instrs_view}
use Rattle.assembler.proofs.builder_bodies.+fit.Given as goal

abbrev pub invariant-instrs_fit-loop-instr : goal.invariant-instrs_fit-loop-instr
invariant-instrs_fit-loop-instr g l =
    limit.instrs_fit (instrs_view (drop l.instr-index l.body.items)) ≡ limit.instrs_fit (instrs_view l.body.items)
