use Rattle.spec_ledger.proofs.Traces.{after-standing}
use Rattle.spec_ledger.proofs.laws.what_stands_is_left.Goals as goal

pub returns : goal.returns
returns c = after-standing
