use Rattle.std.proofs.Common.{◌≡◌, ◌<◌, length, get_or, arith, rules}
use Rattle.module_tree.proofs.Maps.{map_more}
use Rattle.module_tree.proofs.module_copy.copy_parts.Goals as goal

pub loop-part-preserved : goal.loop-part-preserved
loop-part-preserved g c =
    let parts = c.args.parts.now.items in
    let i = c.loop-part.part-index in
    let lt : i < length parts = omega arith in
    let is : c.part-item.result ≡ get_or parts i c.part-item.result = search rules in (
      map_more g.T.Part.copy_view g.T.Part.view _ _ parts c.in_ok-copied.copied c.part-item.result i lt is (search rules) c.in_ok-copied.ensures.view c.loop-part.invariant.0,
      map_more g.T.Part.copy_ordinals g.T.Part.part_ordinals _ _ parts c.in_ok-copied.copied c.part-item.result i lt is (search rules) c.in_ok-copied.ensures.ordinals c.loop-part.invariant.1,
    )
