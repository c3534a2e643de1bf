use Rattle.std.proofs.Common.{arith}
use Rattle.spec_block.specs.Bytes.{IsValue, value_bytes}
use Rattle.records.proofs.Steps.{is_spelled, is_read}
use Rattle.records.specs.Values.{value_at}
use Rattle.records.proofs.Values.{value_exact}
use Rattle.records.proofs.value.read_value.Goals as goal

pub returns-clause-spelled : goal.returns-clause-spelled
returns-clause-spelled c = is_spelled value_at value_bytes IsValue value_exact (λ x. (x.0, x.1.now)) c.value_of.result c.args.bytes.now (λ i. omega (arith, c.type_inv.bytes i)) c.value_of.ensures.read

pub returns-clause-only : goal.returns-clause-only
returns-clause-only c = is_read value_at value_bytes IsValue value_exact (λ x. (x.0, x.1.now)) c.value_of.result c.args.bytes.now c.value_of.ensures.read
