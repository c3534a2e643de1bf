use Rattle.std.proofs.Common.{arith}
use Rattle.lexer.proofs.Comments.{at_begins, at_other, at_ends}
use Rattle.lexer.proofs.reading.past_comment.Goals as goal

pub loop-rest-preserved-else-around-eq0 : goal.loop-rest-preserved-else-around-eq0
loop-rest-preserved-else-around-eq0 c =
    let m = c.comment_mark-mark in
    (at_ends c.loop-rest.around c.loop-rest.rest.now m.result.0 m.result.1.now c.args.text.now m.ensures.is c.in-Ends.is (omega arith) c.loop-rest.invariant.0, omega arith)

pub loop-rest-preserved-in-Begins : goal.loop-rest-preserved-in-Begins
loop-rest-preserved-in-Begins c =
    let m = c.comment_mark-mark in
    (at_begins c.loop-rest.around c.loop-rest.rest.now m.result.0 m.result.1.now c.args.text.now m.ensures.is c.in-Begins.is c.loop-rest.invariant.0, omega arith)

pub loop-rest-preserved : goal.loop-rest-preserved
loop-rest-preserved c =
    let m = c.comment_mark-mark in
    (at_other c.loop-rest.around c.loop-rest.rest.now m.result.0 m.result.1.now c.args.text.now m.ensures.is c.in-Other.is c.loop-rest.invariant.0, omega arith)
