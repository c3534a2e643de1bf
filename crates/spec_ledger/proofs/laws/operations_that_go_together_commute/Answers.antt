use Rattle.spec_ledger.proofs.Ops.{cells_after_comm, reply-comm, inverse-comm}
use Rattle.spec_ledger.proofs.laws.operations_that_go_together_commute.Goals as goal

pub returns : goal.returns
returns c = record { cells = cells_after_comm; reply = reply-comm; inverse = inverse-comm }
