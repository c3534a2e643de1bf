use Rattle.assembler.specs.NamedModules.{NamesNothing}
use Rattle.embed.specs.Refusals.{IsToldAs, RefusesText}
use Rattle.embed.proofs.Refusing.{if_refused, unless_told}
use Rattle.embed.proofs.modules.assemble_text.Goals as goal

pub returns-in-Err-clause-refused : goal.returns-in-Err-clause-refused
returns-in-Err-clause-refused c =
    let cause = c.in-Err.refusal in
    let text = c.args.text.now in
    if_refused c.refuse_text.result (IsToldAs cause) (RefusesText text)
    (λ r told. record {
      none = unless_told (NamesNothing text) cause (told.number, told.at) c.in-Err.ensures.refused told.told_as;
      cause = cause;
      why = c.in-Err.ensures.why;
      told_as = told;
    }) c.refuse_text.ensures
