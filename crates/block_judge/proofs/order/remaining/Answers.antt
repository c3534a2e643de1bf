use Rattle.std.proofs.Common.{IfNone, None, Some, Option, ℕ, length, get_or, ◌<◌, arith}
use Rattle.std.proofs.lemmas.List.Elements.{All-get_or}
use Rattle.spec_ledger.specs.Order.{limits_of}
use Rattle.spec_block.specs.Worlds.{limits}
use Rattle.block_judge.proofs.Sums.{limit_at, limits_within}
use Rattle.block_judge.proofs.order.remaining.Goals as goal

none_is : (o : Option ℕ) (P : Type 0) → P → IfNone o P
none_is None P p = p
none_is (Some x) P p = tt

pub returns-in_err-rest-clause-over : goal.returns-in_err-rest-clause-over
returns-in_err-rest-clause-over c =
    let calls = c.args.calls.now in
    let order = c.args.order.now in
    let i = c.loop-number.number-index in
    let below = All-get_or (λ n. n < length calls) order i 0 c.loop-number-test.true c.requires in
    let limit = limit_at calls (get_or order i 0) c.index-calls-number.result below c.index-calls-number.is in
    let within = limits_within (limits calls) order i c.loop-number-test.true in
    none_is c.from_residual.result (c.args.fuel < limits_of (limits calls) order) (omega (arith, limit, within, c.loop-number.invariant, c.fuel.ensures, c.checked_sub.ensures))
