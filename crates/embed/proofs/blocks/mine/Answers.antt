use Rattle.std.proofs.Common.{List, inl, inr, subst, arith}
use Rattle.std.proofs.lemmas.Result.{err_from_is_err_and}
use Rattle.spec_block.specs.Worlds.{Call}
use Rattle.world.specs.Views.{world_view}
use Rattle.embed.specs.Given.{IsMined}
use Rattle.embed.specs.Refusals.{RefusesCalls, RefusesInputs, RefusesWorld}
use Rattle.embed.proofs.Refusing.{if_refused}
use Rattle.embed.proofs.blocks.mine.Goals as goal

pub returns-clause-mined : goal.returns-clause-mined
returns-clause-mined c =
    let w = world_view c.in_ok-before.before in
    let made = c.in_ok-made.made in
    record {
      world = w;
      spelled = c.in_ok-before.ensures.spelled;
      is = record {
        list = c.in_ok-list.list.items;
        spelled = c.in_ok-list.ensures.spelled;
        few = omega (arith, c.in_ok-list.ensures.few, c.in_ok-list.list.ok.0);
        is = subst (λ (cs : List Call). IsMined w cs c.args.fuel made.block.items made.next.items) c.deref.ensures.value c.in_ok-made.ensures;
      };
    }

pub returns-in_err-before-clause-refused : goal.returns-in_err-before-clause-refused
returns-in_err-before-clause-refused c =
    let p = err_from_is_err_and c.from_residual.result c.from_residual.ensures.1 in
    rw (p.1, p.2) (if_refused c.in_err-before.field-0.0 (RefusesWorld c.args.world.now) (RefusesInputs c.args.world.now c.args.calls.now) (λ r told. inl told) c.in_err-before.ensures.refused)

pub returns-in_err-list-clause-refused : goal.returns-in_err-list-clause-refused
returns-in_err-list-clause-refused c =
    let p = err_from_is_err_and c.from_residual-in_err-list.result c.from_residual-in_err-list.ensures.1 in
    rw (p.1, p.2) (if_refused c.in_err-list.field-0.0 (RefusesCalls c.args.calls.now) (RefusesInputs c.args.world.now c.args.calls.now) (λ r told. inr (record { world = world_view c.in_ok-before.before; spelled = c.in_ok-before.ensures.spelled; is = told })) c.in_err-list.ensures.refused)
