use Rattle.std.proofs.Common.{◌≡◌, ◌<◌, length, get_or, arith, rules, true, false, nat_le}
use Rattle.spec_modules.specs.Shape.{instr_depth, instrs_depth}
use Rattle.module_tree.specs.View.{instr_view, instrs_view}
use Rattle.assembler.proofs.Depths.{within_next, over_here}
use Rattle.assembler.proofs.builder_bodies.+nest.Goals as goal

pub instrs_within-loop-instr-preserved : goal.instrs_within-loop-instr-preserved
instrs_within-loop-instr-preserved g t c =
    let body = c.args.body.now.items in
    let x = c.instr-item.result in
    let i = c.loop-instr.instr-index in
    let lt : i < length body = omega arith in
    let is : x ≡ get_or body i x = search rules in
    let kept : nat_le (instr_depth (instr_view x)) c.args.levels ≡ true = search rules in
    within_next body x i lt is c.args.levels (nat_le (instrs_depth (instrs_view body)) c.args.levels) c.loop-instr.invariant kept

pub instrs_within-returns-then-not-instr_within : goal.instrs_within-returns-then-not-instr_within
instrs_within-returns-then-not-instr_within g t c =
    let body = c.args.body.now.items in
    let x = c.instr-item.result in
    let i = c.loop-instr.instr-index in
    let lt : i < length body = omega arith in
    let is : x ≡ get_or body i x = search rules in
    let over : nat_le (instr_depth (instr_view x)) c.args.levels ≡ false = search rules in
    over_here body x i lt is c.args.levels (nat_le (instrs_depth (instrs_view body)) c.args.levels) c.loop-instr.invariant over
