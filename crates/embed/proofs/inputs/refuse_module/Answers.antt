use Rattle.std.proofs.Common.{◌≡◌, ◌∙◌}
use Rattle.embed.specs.Refusals.{module_refusal}
use Rattle.embed.proofs.Refusing.{if_refused}
use Rattle.embed.proofs.inputs.refuse_module.Goals as goal

pub returns : goal.returns
returns c =
    if_refused c.with_sentence.result (λ r. r ≡ c.module_refusal.result) (λ r. r ≡ module_refusal c.args.refusal) (λ r same. same ∙ c.module_refusal.ensures) c.with_sentence.ensures
