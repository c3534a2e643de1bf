use Rattle.std.proofs.Common.{◌≡◌, ◌∙◌, sym, subst, Some, Option}
use Rattle.interp_state.specs.Waiting.{Comes, Waits}
use Rattle.interp_state.specs.declared.waiting.Waiting.{Waiting}
use Rattle.interp_state.proofs.Entering.{comes_entered}
use Rattle.interp_state.proofs.waiting.enter_last.Goals as goal

pub returns-clause-comes : goal.returns-clause-comes
returns-clause-comes g c =
    λ k args b waits.
    let w = c.in-Some.entry in
    let was : c.args.waiting.now ≡ Some w = sym c.take.ensures.value ∙ c.in-Some.is in
    subst (λ (o : Option (Waiting g.row.A.Denot)). Comes k args b c.args.parts.now o c.settle.new.parts c.take.new.self) (sym was)
    (subst (λ (o : Option (Waiting g.row.A.Denot)). Comes k args b c.args.parts.now (Some w) c.settle.new.parts o) (sym c.take.ensures.after)
    (comes_entered k args b c.args.parts.now c.enter_waiting.new.parts c.settle.new.parts w (subst (λ (o : Option (Waiting g.row.A.Denot)). Waits k args o) was waits)
    c.requires.at_end c.requires.none_open c.enter_waiting.ensures.entered (c.settle.ensures.settles k b)))
