use Rattle.std.proofs.Common.{ℕ, List, subst}
use Rattle.std.proofs.lemmas.Result.{IfErr-weaker, IfOk-weaker}
use Rattle.lexer.specs.declared.LexRefusal.TheVariants.{BadToken}
use Rattle.text_resolve.specs.declared.refusal.AsmRefusal.TheVariants.{Lex}
use Rattle.wblock_modules.specs.Assembles.{IsSpelled}
use Rattle.embed.specs.Refusals.{IfRefused, IsToldAs, RefusesText}
use Rattle.embed.proofs.Refusing.{if_refused}
use Rattle.embed.proofs.modules.assemble.Goals as goal

pub returns-in-Ok-clause-spelled : goal.returns-in-Ok-clause-spelled
returns-in-Ok-clause-spelled c =
    IfOk-weaker c.assemble_text.result _ _ (λ v is. subst (λ (t : List ℕ). IsSpelled t v.items) c.in-Ok.ensures.cases.0 is) c.assemble_text.ensures.spelled

pub returns-in-Ok-clause-refused : goal.returns-in-Ok-clause-refused
returns-in-Ok-clause-refused c =
    IfErr-weaker c.assemble_text.result _ _ (λ f is. subst (λ (t : List ℕ). IfRefused f (RefusesText t)) c.in-Ok.ensures.cases.0 is) c.assemble_text.ensures.refused

pub returns-in-Err-clause-refused : goal.returns-in-Err-clause-refused
returns-in-Err-clause-refused c =
    let none = c.in-Err.ensures.cases.0 in
    if_refused c.refuse_bytes.result (λ r. (at : ℕ) × IsToldAs (Lex (BadToken at)) r) (RefusesText c.args.text.now)
    (λ r told. record {
      none = λ m n. none n.spelled.lexes.utf8;
      cause = Lex (BadToken told.0);
      why = λ ts l. none l.utf8;
      told_as = told.1;
    }) c.refuse_bytes.ensures
