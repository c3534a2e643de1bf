use Rattle.std.proofs.Common.{◌≡◌, ◌≤◌, length, get_or, reverse, arith, rules}
use Rattle.std.proofs.lemmas.List.{length-reverse}
use Rattle.body_typing.proofs.Leaves.{one_far}
use Rattle.body_typing.proofs.plain.one_is_unknown.Goals as goal

pub returns-then-target-len : goal.returns-then-target-len
returns-then-target-len g c =
    let ls = c.args.labels.now.items in
    let n : c.len.result ≡ length ls = search rules in
    let far : length (reverse ls) ≤ get_or c.args.targets.now c.loop-target.target-index 0 = omega (arith, length-reverse ls) in
    λ _. one_far (reverse ls) c.args.targets.now c.loop-target.target-index c.loop-target-test.true far
