use Rattle.std.proofs.Common.{◌≡◌, IfNone, length, refl, sym, subst, ◌∙◌}
use Rattle.std.proofs.lemmas.Option.{slice_get_read, same_Some}
use Rattle.storage.specs.Counts.{Store}
use Rattle.spec_execution.specs.Exec.{Executes}
use Rattle.spec_execution.specs.Run.{ContractCall}
use Rattle.interp.specs.Callee.{setting_view}
use Rattle.in_order.proofs.turns.execute_one.Goals as goal

pub returns-clause-executed : goal.returns-clause-executed
returns-clause-executed g c = λ call at.
    let task = c.args.job.now.task in
    let calls = task.calls.now in
    let e = c.in_ok-executed-3.executed in
    let ran = c.index-calls-number.result in
    let is : ran ≡ call = same_Some ran call (sym (slice_get_read calls (length calls) c.args.number ran refl c.requires.known c.index-calls-number.is) ∙ at) in
    let first : c.by_footprint.new.cells ≡ c.args.cells.now = subst (λ o. IfNone o (c.by_footprint.new.cells ≡ c.args.cells.now)) c.in_default.is c.in_ok-executed.ensures.other in
    let same : c.by_run.new.cells ≡ c.args.cells.now = subst (λ o. IfNone o (c.by_run.new.cells ≡ c.by_footprint.new.cells)) c.in_default-2.is c.in_ok-executed-2.ensures.other ∙ first in
    subst (λ (s : Store). Executes (setting_view task.version task.contracts.now) call s.cells c.execute.new.cells.cells e.receipt e.touched) same
    (subst (λ (k : ContractCall). Executes (setting_view task.version task.contracts.now) k c.by_run.new.cells.cells c.execute.new.cells.cells e.receipt e.touched) is c.in_ok-executed-3.ensures.executed)
