use Rattle.std.proofs.Common.{◌≡◌, drop, nat_le}
use Rattle.spec_modules.specs.Shape.{instrs_depth}
use Rattle.module_tree.specs.View.{instrs_view}
use Rattle.assembler.proofs.builder_bodies.+nest.Given as goal

abbrev pub invariant-instrs_within-loop-instr : goal.invariant-instrs_within-loop-instr
invariant-instrs_within-loop-instr g l =
    nat_le (instrs_depth (instrs_view (drop l.instr-index l.body.items))) l.levels ≡ nat_le (instrs_depth (instrs_view l.body.items)) l.levels
