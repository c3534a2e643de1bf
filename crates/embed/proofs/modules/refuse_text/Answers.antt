use Rattle.std.proofs.Common.{◌≡◌, ◌∙◌, Some, sym}
use Rattle.embed.specs.Refusals.{IsToldAs, refusal}
use Rattle.embed.specs.declared.failure.Subject.TheVariants.{Assemble}
use Rattle.embed.proofs.Refusing.{if_refused}
use Rattle.embed.proofs.modules.refuse_text.Goals as goal

pub returns-in-Some : goal.returns-in-Some
returns-in-Some c =
    let number = c.in-Some.number in
    let at = c.in-Some.place in
    if_refused c.refused.result (λ r. r ≡ refusal Assemble number (Some at)) (λ r. IsToldAs c.args.refusal r)
    (λ r same. record { number = number; at = at; told_as = sym c.refusal_number.ensures ∙ c.in-Some.is; told_is = same }) c.refused.ensures
