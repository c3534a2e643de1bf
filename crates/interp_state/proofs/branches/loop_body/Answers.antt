use Rattle.std.proofs.Common.{◌∙◌, sym}
use Rattle.interp_state.proofs.Repeating.{first_read, loop_found}
use Rattle.interp_state.proofs.branches.loop_body.Goals as goal

pub returns-in-Loop-from-clause-found : goal.returns-in-Loop-from-clause-found
returns-in-Loop-from-clause-found g c =
    let e = c.args.entry.now in
    let i = c.index-entry-0.result in
    loop_found e i c.in-Loop-from.field-0 c.in-Loop-from.field-1 c.in-Loop-from.body c.deref.result.now c.in-Loop.is c.if-entry-ne0.false
    (first_read e.from.now i (sym c.is_empty.ensures ∙ c.if-is_empty.false) c.index-entry-0.is) (c.index-entry-0.is ∙ c.in-Loop-from.is) c.deref.ensures.value
