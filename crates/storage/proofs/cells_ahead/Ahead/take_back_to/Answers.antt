use Rattle.std.proofs.Common.{arith, ◌<◌, ◌∙◌, length, set, sym, ap}
use Rattle.std.specs.FinMap.{empty}
use Rattle.storage.specs.Changing.{counts_of}
use Rattle.storage.proofs.Positions.{may_end, taken_back}
use Rattle.storage.proofs.cells_ahead.Ahead.take_back_to.Goals as goal

pub take_back_to-requires : goal.take_back_to-requires
take_back_to-requires g c =
    let ps = c.self.inside.inverses.items in
    let lt : c.args.position < length ps = omega (arith, c.if-position-len.false, c.len.ensures, c.self.inside.inverses.ok.0) in
    may_end ps c.args.position c.index_mut.result.now c.self.inside.cells.unsettled c.self.invariant lt c.index_mut.ensures.value

pub invariant_of-self : goal.invariant_of-self
invariant_of-self g c =
    let ps = c.self.inside.inverses.items in
    let lt : c.args.position < length ps = omega (arith, c.if-position-len.false, c.len.ensures, c.self.inside.inverses.ok.0) in
    c.take_back_to.ensures.unsettled
    ∙ taken_back ps c.args.position c.index_mut.result.now c.self.inside.cells.unsettled c.self.invariant lt c.index_mut.ensures.value c.args.mark
    ∙ ap (λ x. counts_of (set ps c.args.position x) empty) (sym c.take_back_to.ensures.inverses)
