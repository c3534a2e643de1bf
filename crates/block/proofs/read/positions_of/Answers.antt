use Rattle.std.proofs.Common.{arith}
use Rattle.spec_block.specs.Bytes.{counted, position_bytes}
use Rattle.records.proofs.Steps.{is_spelled, ok_also}
use Rattle.block.specs.Reading.{positions_at}
use Rattle.block.proofs.Exact.{ArePositions, positions_exact}
use Rattle.block.proofs.read.positions_of.Goals as goal

pub returns-clause-few : goal.returns-clause-few
returns-clause-few g c = ok_also c.list_of.result (λ x spelled. spelled.0.few)
    (is_spelled (positions_at c.args.version) (counted (position_bytes c.args.version)) (ArePositions c.args.version) (positions_exact c.positions_are_read_exactly.ensures c.args.version) (λ x. (x.0.items, x.1.now)) c.list_of.result c.args.bytes.now (λ i. omega (arith, c.type_inv.bytes i)) c.list_of.ensures)
