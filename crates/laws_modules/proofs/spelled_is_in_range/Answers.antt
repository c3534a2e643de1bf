use Rattle.laws_modules.specs.ShortestBytes.{from_all_below}
use Rattle.laws_modules.specs.OneTree.{module_in}
use Rattle.laws_modules.specs.Spellings.{spelled_fits, shortest_no_longer}
use Rattle.laws_modules.proofs.spelled_is_in_range.Goals as goal

pub returns : goal.returns
returns c = record {
  fits = λ bytes m s. spelled_fits bytes m (from_all_below bytes s.are_bytes) s.grammar (module_in m s.tree_fits);
  shortest = λ bytes m s. shortest_no_longer bytes m (from_all_below bytes s.are_bytes) s.grammar;
}
