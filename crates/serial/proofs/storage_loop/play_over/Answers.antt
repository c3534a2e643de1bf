use Rattle.std.proofs.Common.{◌≡◌, [], IfOk, sym, ◌∙◌, subst}
use Rattle.std.proofs.lemmas.Result.{IfOk-weaker}
use Rattle.interp.specs.Callee.{setting_view}
use Rattle.interp.specs.Progress.{IsStartOf}
use Rattle.serial.specs.Beginning.{IsEmptyRun}
use Rattle.serial.proofs.Meeting.{free_first}
use Rattle.serial.proofs.storage_loop.play_over.Goals as goal

pub run_over-requires-clause-free : goal.run_over-requires-clause-free
run_over-requires-clause-free g c =
    let start : IsStartOf (setting_view c.args.version c.args.contracts.now) c.args.call.now c.in-Ok-Runs.machine = rw c.in-Ok-Runs.field-0-is at c.in-Ok-Runs.ensures.start in
    free_first c.in-Ok-Runs.machine.status start.goes_on

pub run_over-requires-clause-first : goal.run_over-requires-clause-first
run_over-requires-clause-first g c =
    let start : IsStartOf (setting_view c.args.version c.args.contracts.now) c.args.call.now c.in-Ok-Runs.machine = rw c.in-Ok-Runs.field-0-is at c.in-Ok-Runs.ensures.start in
    start.trace

pub returns-in-Ok-Ended-clause-setting : goal.returns-in-Ok-Ended-clause-setting
returns-in-Ok-Ended-clause-setting g c =
    let is : IsEmptyRun (setting_view c.args.version c.args.contracts.now) c.args.call.now c.in-Ok-Ended.finished = rw c.in-Ok-Ended.field-0-is at c.in-Ok-Ended.ensures.ended in
    is.lent

pub returns-in-Ok-Ended-clause-call : goal.returns-in-Ok-Ended-clause-call
returns-in-Ok-Ended-clause-call g c =
    let is : IsEmptyRun (setting_view c.args.version c.args.contracts.now) c.args.call.now c.in-Ok-Ended.finished = rw c.in-Ok-Ended.field-0-is at c.in-Ok-Ended.ensures.ended in
    is.call_is

pub returns-in-Ok-Ended-clause-led : goal.returns-in-Ok-Ended-clause-led
returns-in-Ok-Ended-clause-led g c =
    let is : IsEmptyRun (setting_view c.args.version c.args.contracts.now) c.args.call.now c.in-Ok-Ended.finished = rw c.in-Ok-Ended.field-0-is at c.in-Ok-Ended.ensures.ended in
    subst (λ t. g.S.Storage.led c.args.storage.now t c.args.storage.now) (sym is.trace) c.requires

pub returns-in-Ok-Runs-clause-setting : goal.returns-in-Ok-Runs-clause-setting
returns-in-Ok-Runs-clause-setting g c =
    let start : IsStartOf (setting_view c.args.version c.args.contracts.now) c.args.call.now c.in-Ok-Runs.machine = rw c.in-Ok-Runs.field-0-is at c.in-Ok-Runs.ensures.start in
    IfOk-weaker c.run_over.result _ _ (λ f e. e ∙ start.setting) c.run_over.ensures.setting

pub returns-in-Ok-Runs-clause-call : goal.returns-in-Ok-Runs-clause-call
returns-in-Ok-Runs-clause-call g c =
    let start : IsStartOf (setting_view c.args.version c.args.contracts.now) c.args.call.now c.in-Ok-Runs.machine = rw c.in-Ok-Runs.field-0-is at c.in-Ok-Runs.ensures.start in
    IfOk-weaker c.run_over.result _ _ (λ f e. e ∙ start.call_is) c.run_over.ensures.call

pub returns-in-Err-clause-rest : goal.returns-in-Err-clause-rest
returns-in-Err-clause-rest g c = ([], g.S.Storage.stay c.args.storage.now c.args.storage.now [] c.requires)
