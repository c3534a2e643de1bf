use Rattle.std.proofs.Common.{append_assoc}
use Rattle.wblock_picture.proofs.Printed.{printed}
use Rattle.wblock_picture.proofs.words.entry_text_of.Goals as goal

pub returns : goal.returns
returns c = printed c.format.result _ _ c.format.ensures.ok (simp (append_assoc, c.in_ok-lock.ensures, c.word_of_mode-mode.ensures))
