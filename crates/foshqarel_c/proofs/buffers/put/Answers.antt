use Rattle.std.proofs.Common.{refl, arith}
use Rattle.foshqarel_c.proofs.buffers.put.Goals as goal

pub returns-then-out-bytes : goal.returns-then-out-bytes
returns-then-out-bytes c = record { fits = λ le. absurd (omega (arith, le, c.if-out-bytes.true)); short = λ lt. (refl, refl) }

pub returns : goal.returns
returns c = record { fits = λ le. (c.put_front.ensures, refl); short = λ lt. absurd (omega (arith, lt, c.if-out-bytes.false)) }
