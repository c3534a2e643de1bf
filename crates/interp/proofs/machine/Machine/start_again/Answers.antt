use Rattle.std.proofs.Common.{◌≡◌, sym, subst}
use Rattle.std.proofs.lemmas.Result.{IfErr-weaker, on_ok_weaker}
use Rattle.interp.specs.declared.start.StartRefusal.TheVariants.{NoMemory}
use Rattle.spec_execution.specs.Run.{opening}
use Rattle.interp.specs.Callee.{setting_view}
use Rattle.interp.specs.Starting.{IsRefusedFor, HasPlace, wrong_in}
use Rattle.interp.specs.Run.{seen}
use Rattle.interp.proofs.Progress.{progress_of}
use Rattle.interp.proofs.machine.Machine.start_again.Goals as goal

pub begin_again-requires-clause-opens : goal.begin_again-requires-clause-opens
begin_again-requires-clause-opens g c = c.in-Ok.ensures.opens c.args.version

pub returns-in-Ok-clause-refused : goal.returns-in-Ok-clause-refused
returns-in-Ok-clause-refused g c =
    let setting = setting_view c.args.version c.args.contracts.now in
    IfErr-weaker c.begin_again.result (λ refusal. refusal ≡ NoMemory) (λ refusal. IsRefusedFor refusal (opening setting c.args.call.now))
    (λ refusal is. subst (λ r. IsRefusedFor r (opening setting c.args.call.now)) (sym is) (subst (IsRefusedFor NoMemory) (sym (c.in-Ok.ensures.opens c.args.version)) tt))
    c.begin_again.ensures.refused

pub returns-in-Ok-clause-place : goal.returns-in-Ok-clause-place
returns-in-Ok-clause-place g c =
    let wrong = wrong_in (setting_view c.args.version c.args.contracts.now) c.args.call.now in
    IfErr-weaker c.begin_again.result (λ refusal. refusal ≡ NoMemory) (λ refusal. HasPlace wrong refusal) (λ refusal is. subst (λ r. HasPlace wrong r) (sym is) tt) c.begin_again.ensures.refused

pub returns-in-Err-clause-place : goal.returns-in-Err-clause-place
returns-in-Err-clause-place g c = c.refusal_of.ensures.place (wrong_in (setting_view c.args.version c.args.contracts.now) c.args.call.now) (c.in-Err.ensures.place c.args.version)

pub returns-in-Ok-clause-on_run : goal.returns-in-Ok-clause-on_run
returns-in-Ok-clause-on_run g c = on_ok_weaker c.begin_again.result (λ _. progress_of (seen c.begin_again.new.run) c.begin_again.ensures.kept.machine) c.begin_again.ensures.start

pub returns-in-Err-clause-refused : goal.returns-in-Err-clause-refused
returns-in-Err-clause-refused g c = subst (IsRefusedFor c.refusal_of.result) (sym (c.in-Err.ensures.refused c.args.version)) c.refusal_of.ensures.cause
