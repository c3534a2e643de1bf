use Rattle.std.proofs.Common.{◌∙◌, sym, ap}
use Rattle.std.specs.FinMap.{empty}
use Rattle.storage.specs.Changing.{counts_of}
use Rattle.storage.proofs.Positions.{counts_none}
use Rattle.storage.proofs.cells_ahead.Ahead.open.Goals as goal

pub invariant_of-result : goal.invariant_of-result
invariant_of-result g c = c.in_ok-cells.ensures.unsettled ∙ sym (ap (λ ps. counts_of ps empty) c.in_ok-inverses.ensures ∙ counts_none c.args.positions empty)
