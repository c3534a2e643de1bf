use Rattle.std.proofs.Common.{◌≡◌, Some}
use Rattle.embed.specs.Refusals.{RefusesCalls, calls_refusal}
use Rattle.embed.proofs.Refusing.{if_refused}
use Rattle.embed.proofs.inputs.calls_of.Goals as goal

pub returns-in-Err-clause-refused : goal.returns-in-Err-clause-refused
returns-in-Err-clause-refused c =
    if_refused c.refuse_calls.result (λ r. calls_refusal c.in-Err.refusal ≡ Some r) (RefusesCalls c.args.text.now)
    (λ r told. record { cause = c.in-Err.refusal; why = c.in-Err.ensures.refused; told_is = told }) c.refuse_calls.ensures
