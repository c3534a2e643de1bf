use Rattle.std.proofs.Common.{arith, rules}
use Rattle.std.proofs.lemmas.Int.{ints}
use Rattle.spec_modules.specs.Shortest.{s32_bytes}
use Rattle.spec_modules.specs.ShortestLaws.{shortest_signed}
use Rattle.leb.proofs.write_s32.Goals as goal

pub returns-in-Err-clause-spelled : goal.returns-in-Err-clause-spelled
unfolding s32_bytes
returns-in-Err-clause-spelled g c = shortest_signed 4 32 c.args.z (omega (arith, ints)) (omega (arith, ints)) (omega arith)

pub returns-clause-bytes : goal.returns-clause-bytes
unfolding s32_bytes
returns-clause-bytes g c = search rules

pub returns-clause-spelled : goal.returns-clause-spelled
unfolding s32_bytes
returns-clause-spelled g c = shortest_signed 4 32 c.args.z (omega (arith, ints)) (omega (arith, ints)) (omega arith)
