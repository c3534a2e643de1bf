use Rattle.std.proofs.Common.{◌++◌, ap, ◌∙◌, arith}
use Rattle.instance.specs.Globals.{Values, standing}
use Rattle.instance.proofs.globals.Globals.copy.Goals as goal

pub invariant_of-result : goal.invariant_of-result
invariant_of-result g c = λ none. omega (arith, c.in_ok-own.ensures.capacity, c.in_ok-extend_from_slice.ensures.capacity)

pub returns : goal.returns
returns g c =
    ap (λ (vs : Values). standing vs c.self.inside.lent.now)
    (c.in_ok-extend_from_slice.ensures.items ∙ ap (λ (vs : Values). vs ++ c.deref.result.now) c.in_ok-own.ensures.items ∙ c.deref.ensures.value) ∙ c.self.view_is
