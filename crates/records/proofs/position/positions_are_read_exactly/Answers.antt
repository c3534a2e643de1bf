use Rattle.records.proofs.Positions.{position_exact}
use Rattle.records.proofs.position.positions_are_read_exactly.Goals as goal

pub returns : goal.returns
returns c = position_exact
