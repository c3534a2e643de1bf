use Rattle.std.proofs.Common.{◌≡◌, IfOk, sym, ◌∙◌, subst}
use Rattle.std.proofs.lemmas.Result.{on_err_weaker}
use Rattle.std.specs.FinMap.{empty}
use Rattle.spec_execution.specs.Exec.{Executes}
use Rattle.storage.specs.Counts.{Store}
use Rattle.interp.specs.Callee.{setting_view}
use Rattle.serial.proofs.runner.Runner.execute.Goals as goal

pub execute_over-executed-requires : goal.execute_over-executed-requires
execute_over-executed-requires g c = subst (λ (k : Store). k.unsettled ≡ empty) (sym c.swap.ensures.y_after) c.requires

pub returns-clause-executed : goal.returns-clause-executed
returns-clause-executed g c =
    let setting = setting_view c.args.version c.args.contracts.now in
    let r = c.execute_over-executed.result in
    subst (λ (k : Store). IfOk r (λ e. Executes setting c.args.call.now c.args.cells.now.cells k.cells e.receipt e.touched)) (sym c.swap-2.ensures.x_after)
    (subst (λ (k : Store). IfOk r (λ e. Executes setting c.args.call.now k.cells c.execute_over-executed.new.over.cells.cells e.receipt e.touched)) c.swap.ensures.y_after c.execute_over-executed.ensures.executed)

pub returns-clause-settled : goal.returns-clause-settled
returns-clause-settled g c = subst (λ (k : Store). k.unsettled ≡ empty) (sym c.swap-2.ensures.x_after) c.execute_over-executed.ensures.settled

pub returns-clause-err : goal.returns-clause-err
returns-clause-err g c = on_err_weaker c.execute_over-executed.result (λ same. c.swap-2.ensures.x_after ∙ same ∙ c.swap.ensures.y_after) c.execute_over-executed.ensures.err
