use Rattle.std.proofs.Common.{append_assoc}
use Rattle.wblock_picture.specs.Boxes.{box_inside}
use Rattle.wblock_picture.proofs.Printed.{printed}
use Rattle.wblock_picture.proofs.boxes.box_inside_of.Goals as goal

pub returns : goal.returns
unfolding box_inside
returns c = printed c.format.result _ _ c.format.ensures.ok (simp append_assoc)
