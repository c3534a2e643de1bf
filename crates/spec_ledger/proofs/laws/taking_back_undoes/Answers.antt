use Rattle.spec_ledger.proofs.Ops.{back-inverse}
use Rattle.std.proofs.Common.{ap, ◌∙◌}
use Rattle.spec_ledger.specs.Book.{back_all, inverses_of, standing}
use Rattle.spec_ledger.proofs.Traces.{back_all-inverses, after-standing}
use Rattle.spec_ledger.proofs.laws.taking_back_undoes.Goals as goal

pub returns : goal.returns
returns c = record { operation = back-inverse; trace = λ t m are. ap (back_all (inverses_of (standing t) m)) (after-standing t m) ∙ back_all-inverses (standing t) m are }
