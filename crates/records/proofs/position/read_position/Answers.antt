use Rattle.std.proofs.Common.{arith}
use Rattle.spec_block.specs.Bytes.{position_bytes}
use Rattle.records.proofs.Steps.{is_spelled, is_read}
use Rattle.records.specs.Positions.{position_at, IsPositionIn}
use Rattle.records.proofs.Positions.{position_exact}
use Rattle.records.proofs.position.read_position.Goals as goal

pub returns-clause-spelled : goal.returns-clause-spelled
returns-clause-spelled g c = is_spelled (position_at c.args.version) (position_bytes c.args.version) (IsPositionIn c.args.version) (position_exact c.args.version) (λ x. (x.0, x.1.now)) c.position_of.result c.args.bytes.now (λ i. omega (arith, c.type_inv.bytes i)) c.position_of.ensures

pub returns-clause-only : goal.returns-clause-only
returns-clause-only g c = is_read (position_at c.args.version) (position_bytes c.args.version) (IsPositionIn c.args.version) (position_exact c.args.version) (λ x. (x.0, x.1.now)) c.position_of.result c.args.bytes.now c.position_of.ensures
