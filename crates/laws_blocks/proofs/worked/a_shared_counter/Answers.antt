use Rattle.laws_blocks.proofs.Shared.{hottest, no_lone_lock, no_other_number, not_left_out}
use Rattle.laws_blocks.proofs.worked.a_shared_counter.Goals as goal

pub returns : goal.returns
returns c = record {
  hottest = hottest;
  no_lone_lock = no_lone_lock;
  no_other_number = no_other_number;
  not_left_out = not_left_out;
}
