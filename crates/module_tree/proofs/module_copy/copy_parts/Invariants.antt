use Rattle.std.proofs.Common.{◌≡◌, take, map}
use Rattle.module_tree.proofs.module_copy.copy_parts.Given as goal

abbrev pub invariant-loop-part : goal.invariant-loop-part
invariant-loop-part g l =
    (map g.T.Part.copy_view l.copies.items ≡ map g.T.Part.view (take l.part-index l.parts.items))
    × (map g.T.Part.copy_ordinals l.copies.items ≡ map g.T.Part.part_ordinals (take l.part-index l.parts.items))
