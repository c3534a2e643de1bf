use Rattle.std.proofs.Common.{◌≡◌, ℕ, ◌+◌, ◌-◌, ◌<◌, ◌≤◌, ◌^◌, arith, rules, pos, neg_ℤ, ◌≤ℤ◌, ◌<ℤ◌, ◌+ℤ◌, ◌-ℤ◌, ◌*ℤ◌, to_z, of_z, w64}
use Rattle.std.proofs.lemmas.Int.{ints}
use Rattle.spec_modules.specs.Reading.{signed_at}
use Rattle.leb.proofs.Powers.{half_at_least_64, half_less, half_at_most}
use Rattle.leb.proofs.+signed_of.Goals as goal

pub returns-then-bits-ge7-clause-value : goal.returns-then-bits-ge7-clause-value
unfolding signed_at
returns-then-bits-ge7-clause-value t c =
    let low : c.from-b.result < 2 ^ (c.args.bits - 1) = omega (arith, half_at_least_64 c.args.bits (omega arith)) in
    let is : c.from.result ≡ pos c.from-b.result = search rules in
    let same : to_z w64 (of_z w64 c.from.result) ≡ pos c.from-b.result = omega (arith, ints) in
    rw same (search rules)

pub returns-then-bits-ge7-clause-bound : goal.returns-then-bits-ge7-clause-bound
returns-then-bits-ge7-clause-bound t c =
    let low = half_at_least_64 c.args.bits (omega arith) in
    let is : c.from.result ≡ pos c.from-b.result = search rules in
    (omega (arith, ints), omega (arith, ints))

pub returns-then-bits-ge7-2-clause-value : goal.returns-then-bits-ge7-2-clause-value
unfolding signed_at
returns-then-bits-ge7-2-clause-value t c =
    let low : 128 ≤ c.from-b.result + 2 ^ (c.args.bits - 1) = omega (arith, half_at_least_64 c.args.bits (omega arith)) in
    let is : c.from-then-bits-ge7-2.result ≡ pos c.from-b.result = search rules in
    let same : to_z w64 (of_z w64 (to_z w64 (of_z w64 c.from-then-bits-ge7-2.result) -ℤ pos 128)) ≡ pos c.from-b.result -ℤ pos 128 = omega (arith, ints) in
    rw same (search rules)

pub returns-then-bits-ge7-2-clause-bound : goal.returns-then-bits-ge7-2-clause-bound
returns-then-bits-ge7-2-clause-bound t c =
    let low = half_at_least_64 c.args.bits (omega arith) in
    let is : c.from-then-bits-ge7-2.result ≡ pos c.from-b.result = search rules in
    (omega (arith, ints), omega (arith, ints))

pub overflow_mul-result : goal.overflow_mul-result
overflow_mul-result t c =
    let e = half_less c.args.bits (omega arith) in
    let h = half_at_most c.args.bits (omega arith) in
    let b = c.in_ok-high.ensures.bound in
    omega (arith, ints, b.0, b.1)

sum_is : (t : ℕ) (c : goal.After-from-2 t)
    → (to_z w64 (of_z w64 (to_z w64 (of_z w64 (pos 128 *ℤ to_z w64 (of_z w64 c.in_ok-high.high))) +ℤ to_z w64 (of_z w64 (to_z w64 (of_z w64 c.from-2.result) -ℤ pos 128)))) ≡ (pos 128 *ℤ c.in_ok-high.high) +ℤ pos (c.from-b.result - 128))
    × (neg_ℤ (pos (2 ^ (c.args.bits - 1))) ≤ℤ ((pos 128 *ℤ c.in_ok-high.high) +ℤ pos (c.from-b.result - 128)))
    × (((pos 128 *ℤ c.in_ok-high.high) +ℤ pos (c.from-b.result - 128)) <ℤ pos (2 ^ (c.args.bits - 1)))
sum_is t c =
    let e = half_less c.args.bits (omega arith) in
    let h = half_at_most c.args.bits (omega arith) in
    let b = c.in_ok-high.ensures.bound in
    let byte : c.from-b.result < 256 = search rules in
    let is : c.from-2.result ≡ pos c.from-b.result = search rules in
    (omega (arith, ints, b.0, b.1), omega (arith, ints, b.0, b.1), omega (arith, ints, b.0, b.1))

pub returns-clause-value : goal.returns-clause-value
unfolding signed_at
returns-clause-value t c = rw (sum_is t c).0 (search rules)

pub returns-clause-bound : goal.returns-clause-bound
returns-clause-bound t c = rw (sum_is t c).0 ((sum_is t c).1, (sum_is t c).2)
