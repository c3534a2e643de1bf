use Rattle.std.proofs.Common.{ℕ, ◌+◌, ◌-◌, ◌*◌, ◌<◌, ◌^◌, arith, rules}
use Rattle.spec_modules.specs.Reading.{unsigned_at}
use Rattle.leb.proofs.Powers.{seven_below, step_below, at_most_64}
use Rattle.leb.proofs.+unsigned_of.Goals as goal

pub returns-then-bits-ge7-clause-value : goal.returns-then-bits-ge7-clause-value
unfolding unsigned_at
returns-then-bits-ge7-clause-value t c =
    let low : c.from-b.result < 2 ^ c.args.bits = omega (arith, seven_below c.args.bits (omega arith)) in
    search rules

pub returns-then-bits-ge7-clause-bound : goal.returns-then-bits-ge7-clause-bound
returns-then-bits-ge7-clause-bound t c = omega (arith, seven_below c.args.bits (omega arith))

sum_below : (t : ℕ) (c : goal.After-rest-2-1 t) → 128 * c.in_ok-high.high + (c.from-b.result - 128) < 2 ^ c.args.bits
sum_below t c =
    let byte : c.from-b.result < 256 = search rules in
    step_below c.args.bits c.from-b.result c.in_ok-high.high (omega arith) byte c.in_ok-high.ensures.bound

pub overflow_mul-result : goal.overflow_mul-result
overflow_mul-result t c = omega (arith, sum_below t c, at_most_64 c.args.bits c.requires)

pub overflow_add-result : goal.overflow_add-result
overflow_add-result t c = omega (arith, sum_below t c, at_most_64 c.args.bits c.requires)

pub returns-clause-bound : goal.returns-clause-bound
returns-clause-bound t c = sum_below t c
