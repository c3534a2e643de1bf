use Rattle.std.proofs.Common.{◌+◌, ◌*◌, decimal, string_bytes}
use Rattle.figures.specs.Words.{lock_text}
use Rattle.wblock_picture.proofs.Parts.{hot_parts}
use Rattle.wblock_picture.proofs.Printed.{printed}
use Rattle.wblock_picture.proofs.head.hot_text_of.Goals as goal

pub returns : goal.returns
returns c =
    printed c.format.result _ _ c.format.ensures.ok
    (hot_parts (decimal (92 + 16 * c.args.number)) (string_bytes c.in_ok-lock.lock) (lock_text c.args.hot.lock) (decimal c.args.hot.positions) c.in_ok-lock.ensures)
