use Rattle.std.proofs.Common.{append_assoc}
use Rattle.wblock_picture.proofs.Printed.{printed}
use Rattle.wblock_picture.proofs.lines.line_text_of.Goals as goal

pub returns : goal.returns
returns c = printed c.format.result _ _ c.format.ensures.ok (simp (append_assoc, c.saturating_sub-to.ensures, c.from.ensures, c.from-2.ensures, c.from-3.ensures, c.from-4.ensures, c.from-5.ensures))
