use Rattle.wblock_words.proofs.Fronts.{none_returned, unsized}
use Rattle.wblock_words.proofs.parts.section_and_rest.Goals as goal

pub returns-in_err-content : goal.returns-in_err-content
returns-in_err-content c =
    none_returned _ _ c.from_residual-in_err-content.result c.from_residual-in_err-content.ensures (unsized c.args.bytes.now c.in_ok-id.id.now c.in_ok-id.after.now c.in_ok-id.ensures.cases.0 c.in_err-content.ensures)
