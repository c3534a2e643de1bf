use Rattle.std.proofs.Common.{arith}
use Rattle.block.proofs.Digests.{is_digest}
use Rattle.block.proofs.value.note_digest.Goals as goal

pub returns : goal.returns
returns c = is_digest c.args.digest.now (omega arith, (λ i. omega (arith, c.type_inv.digest i)))
