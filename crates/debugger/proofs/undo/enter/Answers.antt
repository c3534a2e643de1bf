use Rattle.std.proofs.Common.{◌∙◌}
use Rattle.debugger.proofs.Undoing.{entered}
use Rattle.debugger.proofs.undo.enter.Goals as goal

pub returns : goal.returns
returns g c = λ now p h.
    let was = c.args.undo.now in
    entered was.inverses.items was.marks.items c.push.new.self.items c.len.result now p h (c.len.ensures ∙ was.inverses.ok.0) c.in_ok-push.ensures.items
