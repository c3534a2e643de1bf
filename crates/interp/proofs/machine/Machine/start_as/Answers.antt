use Rattle.std.proofs.Common.{◌≡◌, sym, subst}
use Rattle.std.proofs.lemmas.Result.{IfErr-weaker}
use Rattle.interp.specs.declared.start.StartRefusal.TheVariants.{NoMemory}
use Rattle.spec_execution.specs.Run.{opening}
use Rattle.interp.specs.Callee.{setting_view}
use Rattle.interp.specs.Starting.{IsRefusedFor, HasPlace, wrong_in}
use Rattle.interp.proofs.machine.Machine.start_as.Goals as goal

pub begin-requires-clause-opens : goal.begin-requires-clause-opens
begin-requires-clause-opens g c = c.in-Ok.ensures.opens c.args.version

pub returns-in-Ok-clause-refused : goal.returns-in-Ok-clause-refused
returns-in-Ok-clause-refused g c =
    let setting = setting_view c.args.version c.args.contracts.now in
    IfErr-weaker c.begin.result (λ refusal. refusal ≡ NoMemory) (λ refusal. IsRefusedFor refusal (opening setting c.args.call.now))
    (λ refusal is. subst (λ r. IsRefusedFor r (opening setting c.args.call.now)) (sym is) (subst (IsRefusedFor NoMemory) (sym (c.in-Ok.ensures.opens c.args.version)) tt))
    c.begin.ensures.refused

pub returns-in-Ok-clause-place : goal.returns-in-Ok-clause-place
returns-in-Ok-clause-place g c =
    let wrong = wrong_in (setting_view c.args.version c.args.contracts.now) c.args.call.now in
    IfErr-weaker c.begin.result (λ refusal. refusal ≡ NoMemory) (λ refusal. HasPlace wrong refusal) (λ refusal is. subst (λ r. HasPlace wrong r) (sym is) tt) c.begin.ensures.refused

pub returns-in-Err-clause-place : goal.returns-in-Err-clause-place
returns-in-Err-clause-place g c = c.refusal_of.ensures.place (wrong_in (setting_view c.args.version c.args.contracts.now) c.args.call.now) (c.in-Err.ensures.place c.args.version)
