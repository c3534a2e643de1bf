use Rattle.std.proofs.Common.{◌≡◌, IfOk, sym, ◌∙◌, subst}
use Rattle.std.specs.FinMap.{empty}
use Rattle.spec_ledger.specs.Book.{GetsReplies}
use Rattle.storage.specs.Counts.{Store}
use Rattle.serial.proofs.run_alone.Goals as goal

pub run_alone_over-finished-requires : goal.run_alone_over-finished-requires
run_alone_over-finished-requires g c = subst (λ (k : Store). k.unsettled ≡ empty) (sym (c.of-over.ensures ∙ c.replace.ensures.value)) c.requires

pub returns-clause-replies : goal.returns-clause-replies
returns-clause-replies g c =
    subst (λ (k : Store). IfOk c.run_alone_over-finished.result (λ finished. GetsReplies finished.trace k.cells)) (c.of-over.ensures ∙ c.replace.ensures.value) c.run_alone_over-finished.ensures.replies

pub returns-clause-cells : goal.returns-clause-cells
returns-clause-cells g c = c.run_alone_over-finished.ensures.cells ∙ c.of-over.ensures ∙ c.replace.ensures.value
