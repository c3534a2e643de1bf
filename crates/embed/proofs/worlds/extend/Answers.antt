use Rattle.std.proofs.Common.{inl, inr}
use Rattle.std.proofs.lemmas.Result.{err_from_is_err_and}
use Rattle.world.specs.Views.{contract_view, world_view}
use Rattle.embed.specs.Refusals.{IsFull, RefusesExtending, RefusesModule, RefusesWorld}
use Rattle.embed.proofs.Refusing.{if_refused}
use Rattle.embed.proofs.worlds.extend.Goals as goal

pub returns-clause-extended : goal.returns-clause-extended
returns-clause-extended c =
    record {
      contract = contract_view c.in_ok-contract.contract;
      is_contract = c.in_ok-contract.ensures.contract;
      has = record { world = world_view c.in_ok-base.base; spelled = c.in_ok-base.ensures.spelled; is = c.in_ok-bytes.ensures };
    }

pub returns-in_err-base-clause-refused : goal.returns-in_err-base-clause-refused
returns-in_err-base-clause-refused c =
    let p = err_from_is_err_and c.from_residual.result c.from_residual.ensures.1 in
    rw (p.1, p.2) (if_refused c.in_err-base.field-0.0 (RefusesWorld c.args.world.now) (RefusesExtending c.args.world.now c.args.code.now) (λ r told. inl told) c.in_err-base.ensures.refused)

pub returns-in_err-find_room-clause-refused : goal.returns-in_err-find_room-clause-refused
returns-in_err-find_room-clause-refused c =
    let p = err_from_is_err_and c.from_residual-in_err-find_room.result c.from_residual-in_err-find_room.ensures.1 in
    rw (p.1, p.2) (if_refused c.in_err-find_room.field-0.0 (λ r. IsFull r (world_view c.in_ok-base.base)) (RefusesExtending c.args.world.now c.args.code.now) (λ r told. inr (inl (record { world = world_view c.in_ok-base.base; spelled = c.in_ok-base.ensures.spelled; is = told }))) c.in_err-find_room.ensures.full)

pub returns-in_err-contract-clause-refused : goal.returns-in_err-contract-clause-refused
returns-in_err-contract-clause-refused c =
    let p = err_from_is_err_and c.from_residual-in_err-contract.result c.from_residual-in_err-contract.ensures.1 in
    rw (p.1, p.2) (if_refused c.in_err-contract.field-0.0 (RefusesModule c.args.code.now) (RefusesExtending c.args.world.now c.args.code.now) (λ r told. inr (inr (record { world = world_view c.in_ok-base.base; spelled = c.in_ok-base.ensures.spelled; is = told }))) c.in_err-contract.ensures.refused)
