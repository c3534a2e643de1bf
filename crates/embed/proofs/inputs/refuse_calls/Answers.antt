use Rattle.std.proofs.Common.{◌≡◌, ◌∙◌, Some, ap, sym}
use Rattle.embed.specs.Refusals.{calls_refusal}
use Rattle.embed.proofs.Refusing.{if_refused}
use Rattle.embed.proofs.inputs.refuse_calls.Goals as goal

pub returns-in-Some : goal.returns-in-Some
returns-in-Some c =
    if_refused c.with_sentence.result (λ r. r ≡ c.in-Some.told) (λ r. calls_refusal c.args.refusal ≡ Some r)
    (λ r same. sym c.calls_refusal.ensures ∙ (c.in-Some.is ∙ ap (λ x. Some x) (sym same))) c.with_sentence.ensures
