use Rattle.std.proofs.Common.{◌≡◌, drop, nat_lt}
use Rattle.std.specs.List.{list_all}
use Rattle.typing.proofs.uses.all_there.Given as goal

abbrev pub invariant-loop-f : goal.invariant-loop-f
invariant-loop-f g l = list_all (λ f. nat_lt f l.funcs) (drop l.f-index l.numbers.items) ≡ list_all (λ f. nat_lt f l.funcs) l.numbers.items
