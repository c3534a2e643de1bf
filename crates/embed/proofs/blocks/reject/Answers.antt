use Rattle.std.proofs.Common.{◌≡◌, ◌∙◌, ℕ, Option, ap}
use Rattle.spec_block.specs.Verdicts.{place}
use Rattle.block_judge.specs.Judging.{told}
use Rattle.embed.specs.Refusals.{IsRejection, refusal}
use Rattle.embed.specs.declared.failure.Subject.TheVariants.{Block}
use Rattle.embed.proofs.Refusing.{if_refused}
use Rattle.embed.proofs.Rejecting.{reason_rejects}
use Rattle.embed.proofs.blocks.reject.Goals as goal

pub returns : goal.returns
returns c =
    let reason = c.args.reason in
    let number = ap (λ (n : ℕ). refusal Block n c.widened.result) c.number.ensures in
    let at = ap (λ (p : Option ℕ). refusal Block (place (told reason)) p) (c.widened.ensures ∙ c.place.ensures) in
    if_refused c.refused.result (λ r. r ≡ refusal Block c.number.result c.widened.result) (λ r. IsRejection (told reason) r)
    (λ r same. (reason_rejects reason, same ∙ (number ∙ at))) c.refused.ensures
