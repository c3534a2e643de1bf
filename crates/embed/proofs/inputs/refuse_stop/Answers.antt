use Rattle.std.proofs.Common.{◌≡◌, subst}
use Rattle.wblock_line.specs.Modules.{StopsAt}
use Rattle.wblock_line.specs.declared.modules.Stop.{Stop}
use Rattle.embed.specs.Refusals.{RefusesModule, module_refusal}
use Rattle.embed.proofs.Refusing.{if_refused}
use Rattle.embed.proofs.inputs.refuse_stop.Goals as goal

pub returns-in-Refused : goal.returns-in-Refused
returns-in-Refused c =
    let cause = c.in-Refused.refusal in
    if_refused c.refuse_module.result (λ r. r ≡ module_refusal cause) (RefusesModule c.args.bytes.now)
    (λ r told. record { cause = cause; why = subst (λ (stop : Stop). StopsAt c.args.bytes.now stop) c.in-Refused.is c.requires; told_is = told }) c.refuse_module.ensures
