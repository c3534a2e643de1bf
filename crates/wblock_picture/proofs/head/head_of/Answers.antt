use Rattle.std.proofs.Common.{string_bytes}
use Rattle.wblock_picture.proofs.Printed.{printed, six_parts}
use Rattle.wblock_picture.specs.declared.head.TheConstants.{STYLE, LEGEND}
use Rattle.wblock_picture.specs.Heads.{head}
use Rattle.wblock_picture.proofs.head.head_of.Goals as goal

pub returns : goal.returns
unfolding head
returns c =
    printed c.format.result _ _ c.format.ensures.ok
    (six_parts (string_bytes c.in_ok-size.size) _ STYLE.now (string_bytes c.in_ok-summary.summary) _ LEGEND.now (string_bytes c.in_ok-drawn.drawn) _ (string_bytes c.in_ok-hot.hot) _ c.in_ok-size.ensures c.in_ok-summary.ensures c.in_ok-drawn.ensures c.in_ok-hot.ensures)
