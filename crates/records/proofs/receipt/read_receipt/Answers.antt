use Rattle.std.proofs.Common.{arith}
use Rattle.spec_block.specs.Bytes.{receipt_bytes}
use Rattle.records.proofs.Steps.{is_spelled, is_read}
use Rattle.records.specs.Values.{receipt_at, IsReceiptIn}
use Rattle.records.proofs.Values.{receipt_exact}
use Rattle.records.proofs.receipt.read_receipt.Goals as goal

pub returns-clause-spelled : goal.returns-clause-spelled
returns-clause-spelled c = is_spelled (receipt_at c.args.version) (receipt_bytes c.args.version) (IsReceiptIn c.args.version) (receipt_exact c.args.version) (λ x. (x.0, x.1.now)) c.receipt_of.result c.args.bytes.now (λ i. omega (arith, c.type_inv.bytes i)) c.receipt_of.ensures.read

pub returns-clause-only : goal.returns-clause-only
returns-clause-only c = is_read (receipt_at c.args.version) (receipt_bytes c.args.version) (IsReceiptIn c.args.version) (receipt_exact c.args.version) (λ x. (x.0, x.1.now)) c.receipt_of.result c.args.bytes.now c.receipt_of.ensures.read
