use Rattle.std.proofs.Common.{◌≡◌, arith, to_z, of_z, w32}
use Rattle.std.proofs.lemmas.Int.{ints}
use Rattle.spec_modules.specs.Leb.{signed}
use Rattle.spec_modules.specs.Reading.{signed_at}
use Rattle.spec_modules.specs.NumberLaws.{signed_takes, signed_again}
use Rattle.expr_reader.proofs.Numbers.{found_is, none_is}
use Rattle.expr_reader.proofs.read.s32_of.Goals as goal

pub returns-in-None-clause-value : goal.returns-in-None-clause-value
returns-in-None-clause-value c = none_is (signed 32) (signed_at 32) (signed_takes 32) c.args.bytes.now c.in-None.ensures.none

pub returns-in-Some-clause-value : goal.returns-in-Some-clause-value
returns-in-Some-clause-value c =
    let same : to_z w32 (of_z w32 c.in-Some.z) ≡ c.in-Some.z = omega (arith, ints) in
    rw same (found_is (signed 32) (signed_at 32) (signed_again 32) c.args.bytes.now c.in-Some.z c.in-Some.next c.in-Some.ensures.found.2)
