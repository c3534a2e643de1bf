use Rattle.std.proofs.Common.{arith}
use Rattle.block.proofs.Exact.{is_block, is_answered}
use Rattle.block.proofs.read.exactly_of.Goals as goal

pub returns-clause-spelled : goal.returns-clause-spelled
returns-clause-spelled g c = is_block c.positions_are_read_exactly.ensures c.args.bytes.now c.all_of.result (λ i. omega (arith, c.type_inv.bytes i)) c.all_of.ensures

pub returns-clause-only : goal.returns-clause-only
returns-clause-only g c = is_answered c.positions_are_read_exactly.ensures c.args.bytes.now c.all_of.result c.all_of.ensures
