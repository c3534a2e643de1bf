use Rattle.spec_ledger.proofs.Facts.{entries-serial, cells-settled, traces-replied, attempts-together}
use Rattle.spec_ledger.proofs.laws.a_kept_book_has_its_facts.Goals as goal

pub returns : goal.returns
returns c = record { entries = entries-serial; cells = cells-settled; replies = traces-replied; modes = attempts-together }
