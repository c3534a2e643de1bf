use Rattle.std.proofs.Common.{◌≡◌, IfSome, arith, subst}
use Rattle.std.specs.Prelude.{Some, slice_get}
use Rattle.spec_execution.specs.Exec.{Executes}
use Rattle.spec_execution.specs.Run.{ContractCall}
use Rattle.interp.specs.Callee.{setting_view}
use Rattle.in_order.proofs.turns.by_footprint.Goals as goal

pub returns-clause-executed : goal.returns-clause-executed
returns-clause-executed g c =
    let task = c.args.job.now.task in
    let is : c.in-Some.prepared.call ≡ c.args.number = omega (arith, c.if-prepared-number.false) in
    subst (λ number. IfSome c.in_ok-executed.executed (λ e. (call : ContractCall) → slice_get task.calls.now number ≡ Some call → Executes (setting_view task.version task.contracts.now) call c.args.cells.now.cells c.commit_if_valid.new.cells.cells e.receipt e.touched)) is
    c.in_ok-executed.ensures.executed
