use Rattle.std.proofs.Common.{sym, ◌∙◌}
use Rattle.spec_execution.proofs.Replies.{is_reply}
use Rattle.debugger.proofs.Undoing.{noted, not_noted, none_of}
use Rattle.debugger.proofs.undo.act.Goals as goal

pub returns-in_ok-push-clause-is_reply : goal.returns-in_ok-push-clause-is_reply
returns-in_ok-push-clause-is_reply g c = is_reply c.args.op c.args.cells.now.cells c.in_ok-reply.reply c.in_ok-reply.ensures.reply

pub returns-in_ok-push-clause-undo : goal.returns-in_ok-push-clause-undo
returns-in_ok-push-clause-undo g c = λ p h.
    let was = c.args.undo.now in
    noted was.inverses.items c.push.new.self.items was.marks.items c.args.cells.now.cells c.do_op.new.cells.cells p c.args.op c.in_ok-reply.reply h c.in_ok-reply.ensures.cells c.use_invariant.ensures.cells
    c.in_ok-reply.inverse c.in_ok-reply.ensures.inverse c.in_ok-push.ensures.items

pub returns-else-not-is_empty-clause-is_reply : goal.returns-else-not-is_empty-clause-is_reply
returns-else-not-is_empty-clause-is_reply g c = is_reply c.args.op c.args.cells.now.cells c.in_ok-reply.reply c.in_ok-reply.ensures.reply

pub returns-else-not-is_empty-clause-undo : goal.returns-else-not-is_empty-clause-undo
returns-else-not-is_empty-clause-undo g c = λ p h.
    let was = c.args.undo.now in
    not_noted was.inverses.items was.inverses.items was.marks.items c.args.cells.now.cells c.do_op.new.cells.cells p c.args.op c.in_ok-reply.reply h c.in_ok-reply.ensures.cells
    (none_of was.marks.items c.args.undo.now.marks.len was.marks.ok.0 (sym c.is_empty.ensures ∙ c.if-not-is_empty.false))
