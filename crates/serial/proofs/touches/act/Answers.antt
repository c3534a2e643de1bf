use Rattle.std.proofs.Common.{refl, ◌∙◌, ap}
use Rattle.std.specs.FinMap.{get}
use Rattle.spec_ledger.specs.Modes.{join_held}
use Rattle.spec_execution.proofs.Replies.{is_reply}
use Rattle.serial.specs.Touches.{modes_of}
use Rattle.serial.proofs.Places.{one_cell}
use Rattle.serial.proofs.Reading.{one_found}
use Rattle.serial.proofs.Stepping.{acted}
use Rattle.serial.proofs.touches.act.Goals as goal

pub returns-clause-is_reply : goal.returns-clause-is_reply
returns-clause-is_reply g c = let one = one_cell c.args.op c.ask-touch.result.later in is_reply c.args.op one.0 c.reply.result (c.reply.ensures ∙ one.1)

pub returns-clause-touches : goal.returns-clause-touches
returns-clause-touches g c = λ tr ms d.
    let t = c.ask-touch.result in
    acted c.args.touches.now c.insert.new.self c.lock-wanted.result c.args.op t (record { mode = t.mode; found = t.found; later = c.next_cell.result }) c.lock-wanted.ensures c.in-Ok.ensures.updates.0
    (c.ask-touch.ensures.mode ∙ ap (λ m. join_held m (get (modes_of c.args.touches.now.entries) c.lock-wanted.result)) c.mode.ensures)
    c.ask-touch.ensures.found c.ask-touch.ensures.later c.ask-touch.ensures.cell c.ask-touch.ensures.first refl refl c.next_cell.ensures
    c.reply.result c.reply.ensures c.inverse.result c.inverse.ensures c.args.inverses.now.items c.push.new.self.items c.in_ok-push.ensures.items tr ms d

pub returns-clause-read : goal.returns-clause-read
returns-clause-read g c = λ are.
    let t = c.ask-touch.result in
    one_found (g.V.Reads.may_read c.args.view.now) c.args.touches.now c.insert.new.self c.lock-wanted.result t (record { mode = t.mode; found = t.found; later = c.next_cell.result }) c.in-Ok.ensures.updates.0
    c.ask-touch.ensures.found c.ask-touch.ensures.read refl are
