use Rattle.std.proofs.Common.{◌≡◌, ◌<◌, length, get_or, arith, rules, ap, ◌∙◌, ◌+◌, drop, max}
use Rattle.spec_modules.specs.Shape.{instr_depth, instrs_depth}
use Rattle.module_tree.specs.View.{instr_view, instrs_view}
use Rattle.module_tree.proofs.Walks.{depth_next}
use Rattle.module_tree.proofs.shape.+depth.Goals as goal

pub depth_of-loop-i-preserved : goal.depth_of-loop-i-preserved
depth_of-loop-i-preserved g t c =
    let body = c.args.body.now.items in
    let x = c.i-item.result in
    let i = c.loop-i.i-index in
    let lt : i < length body = omega arith in
    let is : x ≡ get_or body i x = search rules in
    let deeper : c.max-deepest.result ≡ max c.loop-i.deepest (instr_depth (instr_view x)) = search rules in
    ap (λ d. max d (instrs_depth (instrs_view (drop (i + 1) body)))) deeper ∙ depth_next body x i lt is c.loop-i.deepest ∙ c.loop-i.invariant
