use Rattle.std.proofs.Common.{arith, ◌<◌, ◌∙◌, length, set, sym, ap}
use Rattle.std.specs.FinMap.{empty}
use Rattle.spec_ledger.specs.Cells.{inverse_to}
use Rattle.storage.specs.Counts.{opened}
use Rattle.storage.specs.Changing.{counts_of}
use Rattle.storage.proofs.Positions.{counts_push}
use Rattle.storage.proofs.cells_ahead.Ahead.act.Goals as goal

pub invariant_of-self-2 : goal.invariant_of-self-2
invariant_of-self-2 g c =
    let ps = c.self.inside.inverses.items in
    let i = inverse_to c.args.op c.self.inside.cells.cells in
    let lt : c.args.position < length ps = omega (arith, c.if-position-len.false, c.len.ensures, c.self.inside.inverses.ok.0) in
    c.in_ok-reply.ensures.unsettled
    ∙ ap (opened i) c.self.invariant
    ∙ sym (counts_push ps c.args.position c.index_mut.result.now i empty lt c.index_mut.ensures.value)
    ∙ ap (λ x. counts_of (set ps c.args.position x) empty) (sym c.in_ok-reply.ensures.inverses)
