use Rattle.std.proofs.Common.{◌∙◌, sym}
use Rattle.shards.proofs.SharedBookTakings.{undone}
use Rattle.shards.proofs.shared.SharedBook.undo.Goals as goal

pub returns : goal.returns
returns g c =
    let ticket = c.args.ticket in
    undone ticket.call ticket.number c.deref.result.now c.deref_mut.result.now c.undo.new.self (c.deref_mut.ensures.value ∙ sym c.deref.ensures) c.look.ensures c.undo.ensures.done
