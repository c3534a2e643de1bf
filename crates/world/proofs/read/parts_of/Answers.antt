use Rattle.std.proofs.Common.{arith}
use Rattle.std.proofs.lemmas.Result.{err_from_is_err_and}
use Rattle.world.specs.Reading.{in_head, in_contracts}
use Rattle.world.proofs.Worlds.{no_head, no_contracts, few_contracts}
use Rattle.world.proofs.read.parts_of.Goals as goal

pub returns-in_err-count-clause-none : goal.returns-in_err-count-clause-none
returns-in_err-count-clause-none g c =
    let p = err_from_is_err_and c.from_residual.result c.from_residual.ensures.1 in
    rw (p.1, p.2) (no_head c.args.bytes.now c.in_err-count.field-0.0 c.in_err-count.ensures)

pub returns-in_err-count-clause-first : goal.returns-in_err-count-clause-first
returns-in_err-count-clause-first g c =
    let p = err_from_is_err_and c.from_residual.result c.from_residual.ensures.1 in
    rw (p.1, p.2) (in_head c.in_err-count.field-0.0 c.in_err-count.ensures)

pub returns-in-Ok-clause-few : goal.returns-in-Ok-clause-few
returns-in-Ok-clause-few g c =
    let few = few_contracts c.args.bytes.now (c.in_ok-count.count, c.in_ok-count.rest.now) (λ i. omega (arith, c.type_inv.bytes i)) c.in_ok-count.ensures in
    let number = c.in-Ok.ensures.number in
    omega (arith, few, number)

pub returns-in-Err-clause-none : goal.returns-in-Err-clause-none
returns-in-Err-clause-none g c = no_contracts c.one_tree.ensures c.resolved_once.ensures c.args.bytes.now c.in_ok-count.count c.in_ok-count.rest.now c.in-Err.fault c.in_ok-count.ensures c.in-Err.ensures.fault

pub returns-in-Err-clause-first : goal.returns-in-Err-clause-first
returns-in-Err-clause-first g c = in_contracts c.in-Err.fault c.in_ok-count.count c.in_ok-count.rest.now c.in_ok-count.ensures c.in-Err.ensures.fault
