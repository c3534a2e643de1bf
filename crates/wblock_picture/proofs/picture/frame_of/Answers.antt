use Rattle.std.proofs.Common.{[], ◌∷◌, ◌++◌, codes, decimal}
use Rattle.wblock_picture.specs.Pictures.{frame}
use Rattle.wblock_picture.proofs.Parts.{frame_parts}
use Rattle.wblock_picture.proofs.Printed.{printed}
use Rattle.wblock_picture.proofs.picture.frame_of.Goals as goal

pub returns : goal.returns
unfolding frame
returns c =
    printed c.format.result _ _ c.format.ensures.ok
    (frame_parts c.args.head.now (codes "<g transform=\"translate(24 ") (decimal c.args.top) (codes ")\">" ++ 10 ∷ codes "<g class=\"lines\">" ++ 10 ∷ []) c.args.lines.now (codes "</g>" ++ 10 ∷ []) c.args.boxes.now (codes "</g>" ++ 10 ∷ codes "</svg>" ++ 10 ∷ []))
