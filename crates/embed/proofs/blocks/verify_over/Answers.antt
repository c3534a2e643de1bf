use Rattle.std.proofs.lemmas.Result.{IfErr-weaker, IfOk-weaker}
use Rattle.world.specs.Views.{world_view}
use Rattle.validator.specs.VerdictsFound.{verdict_view}
use Rattle.embed.specs.Refusals.{IsRejection, Rejects}
use Rattle.embed.proofs.Refusing.{if_refused}
use Rattle.embed.proofs.Rejecting.{accepts}
use Rattle.embed.proofs.blocks.verify_over.Goals as goal

pub returns-clause-accepted : goal.returns-clause-accepted
returns-clause-accepted c =
    let w = world_view c.args.world.now in
    let v = verdict_view c.in_ok-verdict.verdict in
    IfOk-weaker c.answer_to.result _ _ (λ next leaves. accepts v w c.args.calls.now c.args.fuel c.args.block.now next.items c.in_ok-verdict.ensures leaves) c.answer_to.ensures.accepted

pub returns-clause-rejected : goal.returns-clause-rejected
returns-clause-rejected c =
    let w = world_view c.args.world.now in
    let v = verdict_view c.in_ok-verdict.verdict in
    IfErr-weaker c.answer_to.result _ _
    (λ f is. if_refused f (λ r. IsRejection v r) (Rejects w c.args.calls.now c.args.fuel c.args.block.now)
    (λ r told. record { verdict = v; is = c.in_ok-verdict.ensures; rejects = told.0; told_is = told.1 }) is) c.answer_to.ensures.rejected
