use Rattle.spec_ledger.proofs.Parts.{cells_in, defined_in}
use Rattle.spec_ledger.proofs.shards.shards_are_one_book.Goals as goal

pub returns : goal.returns
returns c = record {
  cells = λ home shards each journal opening own same i below. cells_in home journal i opening (own i) (same i below);
  defined = λ home shards each journal opening own same d. defined_in home shards each journal opening own same d;
}
