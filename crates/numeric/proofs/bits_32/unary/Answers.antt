use Rattle.std.proofs.Common.{rules}
use Rattle.numeric.proofs.Digits.{leading, trailing, count}
use Rattle.numeric.proofs.bits_32.unary.Goals as goal

pub returns-in-Clz : goal.returns-in-Clz
returns-in-Clz c = rw c.in-Clz.is (leading 32 c.args.x (search rules))

pub returns-in-Ctz : goal.returns-in-Ctz
returns-in-Ctz c = rw c.in-Ctz.is (trailing 32 c.args.x)

pub returns-in-Popcnt : goal.returns-in-Popcnt
returns-in-Popcnt c = rw c.in-Popcnt.is (count 32 c.args.x (search rules))
