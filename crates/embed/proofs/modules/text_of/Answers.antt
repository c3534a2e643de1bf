use Rattle.std.proofs.Common.{false, inl, subst}
use Rattle.std.proofs.lemmas.Result.{IfErr-weaker, IfOk-weaker}
use Rattle.wblock_modules.specs.Texts.{IsFound}
use Rattle.wblock_modules.specs.declared.text.Found.{Found}
use Rattle.embed.specs.Refusals.{IsUnwritten, RefusesModule, RefusesWriting}
use Rattle.embed.proofs.Refusing.{if_refused, unwritten}
use Rattle.embed.proofs.modules.text_of.Goals as goal

pub returns-in-Ok-clause-text : goal.returns-in-Ok-clause-text
returns-in-Ok-clause-text c =
    IfOk-weaker c.text_in.result _ _ (λ text is. subst (λ (found : Found). IsFound false c.args.code.now found) is c.in-Ok.ensures.found) c.text_in.ensures.text

pub returns-in-Ok-clause-refused : goal.returns-in-Ok-clause-refused
returns-in-Ok-clause-refused c =
    let code = c.args.code.now in
    let found = c.in-Ok.found in
    IfErr-weaker c.text_in.result _ _
    (λ f told. if_refused f (λ r. IsUnwritten found r) (RefusesWriting code) (λ r is. unwritten code found r c.in-Ok.ensures.found is) told) c.text_in.ensures.refused

pub returns-in-Err-clause-refused : goal.returns-in-Err-clause-refused
returns-in-Err-clause-refused c =
    if_refused c.refuse_stop.result (RefusesModule c.args.code.now) (RefusesWriting c.args.code.now) (λ r told. inl told) c.refuse_stop.ensures
