use Rattle.std.proofs.Common.{◌≡◌, ◌<◌, ◌∙◌, true, false, length, get_or, arith}
use Rattle.std.proofs.lemmas.List.{get_or_read, length-set}
use Rattle.block_judge.specs.Marks.{is_marked}
use Rattle.block_judge.proofs.Numbers.{marks_more, none_more, none_bad}
use Rattle.block_judge.proofs.order.mark.Goals as goal

pub loop-position-preserved : goal.loop-position-preserved
loop-position-preserved g c =
    let marks = c.loop-position.marks.items in
    let order = c.args.order.now in
    let i = c.loop-position.position in
    let kept = c.loop-position.invariant in
    let below : get_or order i 0 < length marks = omega (arith, c.if-call-len.false, c.len.ensures, c.loop-position.marks.ok.0) in
    let new : is_marked marks (get_or order i 0) ≡ false = (let read = get_or_read marks (get_or order i 0) c.index.result.now below c.index.ensures false in let no = c.if-index.false in cc) in
    record {
      marked = marks_more marks order i c.loop-position-test.true kept.marked below;
      size = length-set marks (get_or order i 0) true ∙ kept.size;
      none = none_more c.args.calls.now order marks i kept.none kept.marked (let size = kept.size in omega (arith, below, size)) new;
    }

pub returns-clause-good : goal.returns-clause-good
returns-clause-good g c = none_bad c.args.calls.now c.args.order.now c.loop-position.position c.loop-position-test.false c.loop-position.invariant.none
