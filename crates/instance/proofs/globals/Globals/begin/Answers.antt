use Rattle.std.proofs.Common.{ap, arith}
use Rattle.instance.specs.Globals.{Values, standing}
use Rattle.instance.proofs.globals.Globals.begin.Goals as goal

pub invariant_of-result : goal.invariant_of-result
invariant_of-result g c = λ none. omega (arith, c.in_ok-own.ensures.capacity)

pub returns : goal.returns
returns g c = ap (λ (vs : Values). standing vs c.args.lent.now) c.in_ok-own.ensures.items
