use Rattle.std.proofs.Common.{◌≡◌, ◌<◌, length, get_or, arith, rules}
use Rattle.module_tree.specs.View.{instr_view, instr_ordinals}
use Rattle.module_tree.proofs.Maps.{map_more}
use Rattle.module_tree.proofs.copy.+copy.Goals as goal

pub copy_instrs-loop-i-preserved : goal.copy_instrs-loop-i-preserved
copy_instrs-loop-i-preserved g t c =
    let body = c.args.body.now.items in
    let i = c.loop-i.i-index in
    let lt : i < length body = omega arith in
    let is : c.i-item.result ≡ get_or body i c.i-item.result = search rules in (
      map_more instr_view instr_view _ _ body c.in_ok-copied.copied c.i-item.result i lt is (search rules) c.in_ok-copied.ensures.view c.loop-i.invariant.0,
      map_more instr_ordinals instr_ordinals _ _ body c.in_ok-copied.copied c.i-item.result i lt is (search rules) c.in_ok-copied.ensures.ordinals c.loop-i.invariant.1,
    )
