use Rattle.std.proofs.Common.{arith, rules}
use Rattle.spec_modules.specs.Shortest.{u32_bytes}
use Rattle.spec_modules.specs.ShortestLaws.{shortest_unsigned}
use Rattle.leb.proofs.write_u32.Goals as goal

pub returns-in-Err-clause-spelled : goal.returns-in-Err-clause-spelled
unfolding u32_bytes
returns-in-Err-clause-spelled g c = shortest_unsigned 4 32 c.args.n (omega arith) (omega arith)

pub returns-clause-bytes : goal.returns-clause-bytes
unfolding u32_bytes
returns-clause-bytes g c = search rules

pub returns-clause-spelled : goal.returns-clause-spelled
unfolding u32_bytes
returns-clause-spelled g c = shortest_unsigned 4 32 c.args.n (omega arith) (omega arith)
