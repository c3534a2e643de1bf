use Rattle.std.proofs.Common.{◌<◌, All}
use Rattle.bench.proofs.orders.all_numbers.Given as goal

abbrev pub invariant-loop-number : goal.invariant-loop-number
invariant-loop-number l = All (λ number. number < l.fn.count) l.numbers.items
