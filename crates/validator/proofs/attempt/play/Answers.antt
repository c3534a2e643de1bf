use Rattle.std.proofs.Common.{◌∙◌, ap, sym, refl, length}
use Rattle.std.specs.Prelude.{Some}
use Rattle.std.proofs.lemmas.Option.{slice_get_read}
use Rattle.std.proofs.lemmas.Result.{IfOk-weaker}
use Rattle.interp.specs.Callee.{setting_view}
use Rattle.interp.specs.Progress.{IsStartOf}
use Rattle.serial.specs.Beginning.{IsEmptyRun}
use Rattle.serial.proofs.Ending.{is_run}
use Rattle.serial.proofs.Meeting.{free_first}
use Rattle.validator.proofs.attempt.play.Goals as goal

pub run-requires-clause-free : goal.run-requires-clause-free
run-requires-clause-free g c κs within =
    let start : IsStartOf (setting_view c.args.job.now.ordered.task.version c.args.job.now.ordered.task.contracts.now) _ c.in-Ok-Runs.machine = rw c.in-Ok-Runs.field-0-is at c.in-Ok-Runs.ensures.start in
    free_first c.in-Ok-Runs.machine.status start.goes_on

pub returns-in-Ok-Runs : goal.returns-in-Ok-Runs
returns-in-Ok-Runs g c =
    let start : IsStartOf (setting_view c.args.job.now.ordered.task.version c.args.job.now.ordered.task.contracts.now) _ c.in-Ok-Runs.machine = rw c.in-Ok-Runs.field-0-is at c.in-Ok-Runs.ensures.start in
    let calls = c.args.job.now.ordered.task.calls.now in
    let at = slice_get_read calls (length calls) c.args.number c.index-calls-number.result refl c.requires c.index-calls-number.is in
    is_run c.run.result _ calls c.args.number _ (IfOk-weaker c.run.result _ _ (λ f e. e ∙ start.setting) c.run.ensures.setting) (IfOk-weaker c.run.result _ _ (λ f e. e ∙ start.call_is) c.run.ensures.call) (at)

pub returns-in-Ok-Ended : goal.returns-in-Ok-Ended
returns-in-Ok-Ended g c =
    let is : IsEmptyRun (setting_view c.args.job.now.ordered.task.version c.args.job.now.ordered.task.contracts.now) _ c.in-Ok-Ended.finished = rw c.in-Ok-Ended.field-0-is at c.in-Ok-Ended.ensures.ended in
    let calls = c.args.job.now.ordered.task.calls.now in
    let at = slice_get_read calls (length calls) c.args.number c.index-calls-number.result refl c.requires c.index-calls-number.is in
    record { lent = is.lent; call_is = at ∙ ap (λ x. Some x) (sym is.call_is) }
