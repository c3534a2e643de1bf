use Rattle.spec_ledger.proofs.FirstFit.{first_fit-admissible, first_fit-rising, first_fit-joins, first_fit-grows}
use Rattle.spec_ledger.proofs.laws.first_fit_is_admissible.Goals as goal

pub returns : goal.returns
returns c = record { admissible = first_fit-admissible; rising = first_fit-rising; joins = first_fit-joins; grows = first_fit-grows }
