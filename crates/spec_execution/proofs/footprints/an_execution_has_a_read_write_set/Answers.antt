use Rattle.spec_execution.proofs.ReadWriteSets.{read_write_set, found_all, left_is, kept_at}
use Rattle.spec_execution.proofs.footprints.an_execution_has_a_read_write_set.Goals as goal

pub returns : goal.returns
returns c = record {
  read_write_set = λ setting call before later receipt locks are e. read_write_set setting call before later receipt locks are e;
  found = λ before later locks. found_all before later locks;
  left = λ setting call before later receipt locks are e. left_is setting call before later receipt locks are e;
  kept = λ before later cells locks lock only. kept_at before later cells locks lock only;
}
