use Rattle.std.proofs.Common.{IfSome, subst}
use Rattle.std.specs.Prelude.{IfNone}
use Rattle.interp.specs.Progress.{IsReceiptOf, IsUnfinished}
use Rattle.interp.proofs.machine.Machine.receipt.Goals as goal

pub returns-clause-some : goal.returns-clause-some
returns-clause-some g c = subst (λ p. IfSome c.receipt_of_run.result (λ receipt. IsReceiptOf p receipt)) c.self.view_is c.receipt_of_run.ensures.some

pub returns-clause-none : goal.returns-clause-none
returns-clause-none g c = subst (λ p. IfNone c.receipt_of_run.result (IsUnfinished p.status)) c.self.view_is c.receipt_of_run.ensures.none
