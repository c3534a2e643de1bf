use Rattle.laws_blocks.proofs.Times.{no_sooner}
use Rattle.laws_blocks.proofs.Soonest.{least, least_of_figures}
use Rattle.laws_blocks.proofs.no_validator_is_faster.Goals as goal

pub returns : goal.returns
returns c = record {
  never_less = no_sooner;
  least = least;
  accepted = λ world calls fuel bytes next block verdict spells. least_of_figures block (c.accepted_blocks_have_waves.ensures.turns world calls fuel bytes next block verdict spells);
}
