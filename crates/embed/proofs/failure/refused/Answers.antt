use Rattle.std.proofs.Common.{◌≡◌, subst}
use Rattle.embed.specs.Refusals.{IfRefused}
use Rattle.embed.specs.declared.failure.Refusal.{Refusal}
use Rattle.embed.proofs.failure.refused.Goals as goal

pub returns : goal.returns
returns c = subst (λ (x : Refusal). IfRefused c.with_sentence.result (λ r. r ≡ x)) c.at.ensures c.with_sentence.ensures
