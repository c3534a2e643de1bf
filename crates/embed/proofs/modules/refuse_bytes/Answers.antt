use Rattle.std.proofs.Common.{ℕ}
use Rattle.lexer.specs.declared.LexRefusal.TheVariants.{BadToken}
use Rattle.text_resolve.specs.declared.refusal.AsmRefusal.TheVariants.{Lex}
use Rattle.embed.specs.Refusals.{IsToldAs}
use Rattle.embed.proofs.Refusing.{if_refused}
use Rattle.embed.proofs.modules.refuse_bytes.Goals as goal

pub returns-in-Ok : goal.returns-in-Ok
returns-in-Ok c =
    if_refused c.refuse_text.result (IsToldAs (Lex (BadToken c.in-Ok.at))) (λ r. (at : ℕ) × IsToldAs (Lex (BadToken at)) r) (λ r told. (c.in-Ok.at, told)) c.refuse_text.ensures
