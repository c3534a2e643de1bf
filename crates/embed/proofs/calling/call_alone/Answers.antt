use Rattle.std.proofs.Common.{List, inl, inr, subst, arith}
use Rattle.std.proofs.lemmas.Result.{IfErr-weaker, IfOk-weaker, err_from_is_err_and}
use Rattle.spec_block.specs.Worlds.{Call}
use Rattle.world.specs.Views.{world_view}
use Rattle.embed.specs.Given.{IsEffectOf}
use Rattle.embed.specs.Refusals.{LacksCall, RefusesCalled, RefusesCalls, RefusesWorld}
use Rattle.embed.proofs.Refusing.{if_refused}
use Rattle.embed.proofs.calling.call_alone.Goals as goal

pub returns-clause-ran : goal.returns-clause-ran
returns-clause-ran c =
    let w = world_view c.in_ok-before.before in
    let list = c.in_ok-list.list in
    IfOk-weaker c.run_listed.result _ _
    (λ e is. record {
      world = w;
      spelled = c.in_ok-before.ensures.spelled;
      is = record {
        list = list.items;
        spelled = c.in_ok-list.ensures.spelled;
        few = omega (arith, c.in_ok-list.ensures.few, list.ok.0);
        is = subst (λ (cs : List Call). IsEffectOf w c.args.number e.receipt e.changes.items cs) c.deref.ensures.value is;
      };
    }) c.run_listed.ensures.ran

pub returns-clause-refused : goal.returns-clause-refused
returns-clause-refused c =
    let w = world_view c.in_ok-before.before in
    let list = c.in_ok-list.list in
    let number = c.args.number in
    IfErr-weaker c.run_listed.result _ _
    (λ f is. if_refused f (LacksCall c.deref.result.now number) (RefusesCalled c.args.world.now c.args.calls.now number)
    (λ r told. inr (record {
      world = w;
      spelled = c.in_ok-before.ensures.spelled;
      is = record {
        list = list.items;
        spelled = c.in_ok-list.ensures.spelled;
        few = omega (arith, c.in_ok-list.ensures.few, list.ok.0);
        is = subst (λ (cs : List Call). LacksCall cs number r) c.deref.ensures.value told;
      };
    })) is) c.run_listed.ensures.refused

pub returns-in_err-before-clause-refused : goal.returns-in_err-before-clause-refused
returns-in_err-before-clause-refused c =
    let p = err_from_is_err_and c.from_residual.result c.from_residual.ensures.1 in
    rw (p.1, p.2) (if_refused c.in_err-before.field-0.0 (RefusesWorld c.args.world.now) (RefusesCalled c.args.world.now c.args.calls.now c.args.number) (λ r told. inl (inl told)) c.in_err-before.ensures.refused)

pub returns-in_err-list-clause-refused : goal.returns-in_err-list-clause-refused
returns-in_err-list-clause-refused c =
    let p = err_from_is_err_and c.from_residual-in_err-list.result c.from_residual-in_err-list.ensures.1 in
    rw (p.1, p.2) (if_refused c.in_err-list.field-0.0 (RefusesCalls c.args.calls.now) (RefusesCalled c.args.world.now c.args.calls.now c.args.number) (λ r told. inl (inr (record { world = world_view c.in_ok-before.before; spelled = c.in_ok-before.ensures.spelled; is = told }))) c.in_err-list.ensures.refused)
