use Rattle.std.proofs.Common.{arith, ◌<◌, ◌∙◌, length, set, sym, ap, subst}
use Rattle.std.specs.FinMap.{empty}
use Rattle.storage.specs.Counts.{AreUnsettled, closed_all}
use Rattle.storage.specs.Changing.{counts_of}
use Rattle.storage.proofs.Positions.{may_end, ended}
use Rattle.storage.proofs.cells_ahead.Ahead.end.Goals as goal

pub end_all-requires : goal.end_all-requires
end_all-requires g c =
    let ps = c.self.inside.inverses.items in
    let lt : c.args.position < length ps = omega (arith, c.if-position-len.false, c.len.ensures, c.self.inside.inverses.ok.0) in
    subst (λ x. AreUnsettled x c.self.inside.cells.unsettled) (sym (c.into_inverses.ensures ∙ c.replace-changes.ensures.value))
    (may_end ps c.args.position c.index_mut.result.now c.self.inside.cells.unsettled c.self.invariant lt c.index_mut.ensures.value)

pub invariant_of-self : goal.invariant_of-self
invariant_of-self g c =
    let ps = c.self.inside.inverses.items in
    let lt : c.args.position < length ps = omega (arith, c.if-position-len.false, c.len.ensures, c.self.inside.inverses.ok.0) in
    c.end_all.ensures.unsettled
    ∙ ap (λ x. closed_all x c.self.inside.cells.unsettled) (c.into_inverses.ensures ∙ c.replace-changes.ensures.value)
    ∙ ended ps c.args.position c.index_mut.result.now c.self.inside.cells.unsettled c.self.invariant lt c.index_mut.ensures.value
    ∙ ap (λ x. counts_of (set ps c.args.position x) empty) (sym (c.replace-changes.ensures.after ∙ c.new.ensures))
