use Rattle.std.proofs.Common.{sym, ◌∙◌, ap}
use Rattle.spec_ledger.specs.declared.Inverse.{Inverse}
use Rattle.spec_ledger.specs.Cells.{back}
use Rattle.debugger.proofs.Undoing.{subtracting}
use Rattle.debugger.proofs.undo.undoing.Goals as goal

pub returns-in-Subtract : goal.returns-in-Subtract
returns-in-Subtract c m = subtracting c.in-Subtract.place c.in-Subtract.value c.wrapping_neg.result m c.wrapping_neg.ensures ∙ ap (λ (i : Inverse). back i m) (sym c.in-Subtract.is)
