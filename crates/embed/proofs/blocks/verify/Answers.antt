use Rattle.std.proofs.Common.{List, inl, inr, subst, arith}
use Rattle.std.proofs.lemmas.Result.{IfErr-weaker, IfOk-weaker, err_from_is_err_and}
use Rattle.spec_block.specs.Worlds.{Call}
use Rattle.world.specs.Views.{world_view}
use Rattle.embed.specs.Given.{IsAccepted}
use Rattle.embed.specs.Refusals.{Rejects, RefusesCalls, RefusesVerified, RefusesWorld}
use Rattle.embed.proofs.Refusing.{if_refused}
use Rattle.embed.proofs.blocks.verify.Goals as goal

pub returns-clause-accepted : goal.returns-clause-accepted
returns-clause-accepted c =
    let w = world_view c.in_ok-before.before in
    IfOk-weaker c.verify_over.result _ _
    (λ next is. record {
      world = w;
      spelled = c.in_ok-before.ensures.spelled;
      is = record {
        list = c.in_ok-list.list.items;
        spelled = c.in_ok-list.ensures.spelled;
        few = omega (arith, c.in_ok-list.ensures.few, c.in_ok-list.list.ok.0);
        is = subst (λ (cs : List Call). IsAccepted w cs c.args.fuel c.args.block.now next.items) c.deref.ensures.value is;
      };
    }) c.verify_over.ensures.accepted

pub returns-clause-refused : goal.returns-clause-refused
returns-clause-refused c =
    let w = world_view c.in_ok-before.before in
    IfErr-weaker c.verify_over.result _ _
    (λ f is. if_refused f (Rejects w c.deref.result.now c.args.fuel c.args.block.now) (RefusesVerified c.args.world.now c.args.calls.now c.args.fuel c.args.block.now)
    (λ r told. inr (record {
      world = w;
      spelled = c.in_ok-before.ensures.spelled;
      is = record {
        list = c.in_ok-list.list.items;
        spelled = c.in_ok-list.ensures.spelled;
        few = omega (arith, c.in_ok-list.ensures.few, c.in_ok-list.list.ok.0);
        is = subst (λ (cs : List Call). Rejects w cs c.args.fuel c.args.block.now r) c.deref.ensures.value told;
      };
    })) is) c.verify_over.ensures.rejected

pub returns-in_err-before-clause-refused : goal.returns-in_err-before-clause-refused
returns-in_err-before-clause-refused c =
    let p = err_from_is_err_and c.from_residual.result c.from_residual.ensures.1 in
    rw (p.1, p.2) (if_refused c.in_err-before.field-0.0 (RefusesWorld c.args.world.now) (RefusesVerified c.args.world.now c.args.calls.now c.args.fuel c.args.block.now) (λ r told. inl (inl told)) c.in_err-before.ensures.refused)

pub returns-in_err-list-clause-refused : goal.returns-in_err-list-clause-refused
returns-in_err-list-clause-refused c =
    let p = err_from_is_err_and c.from_residual-in_err-list.result c.from_residual-in_err-list.ensures.1 in
    rw (p.1, p.2) (if_refused c.in_err-list.field-0.0 (RefusesCalls c.args.calls.now) (RefusesVerified c.args.world.now c.args.calls.now c.args.fuel c.args.block.now) (λ r told. inl (inr (record { world = world_view c.in_ok-before.before; spelled = c.in_ok-before.ensures.spelled; is = told }))) c.in_err-list.ensures.refused)
