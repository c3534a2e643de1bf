use Rattle.laws_blocks.proofs.Shared.{counts, not_returned}
use Rattle.laws_blocks.proofs.worked.outcomes_counted.Goals as goal

pub returns : goal.returns
returns c = record {
  counts = counts;
  not_returned = not_returned;
}
