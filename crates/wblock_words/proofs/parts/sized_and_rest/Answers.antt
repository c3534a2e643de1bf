use Rattle.std.proofs.Common.{arith}
use Rattle.wblock_words.proofs.Fronts.{no_size, none_returned, too_short}
use Rattle.wblock_words.proofs.parts.sized_and_rest.Goals as goal

pub returns-in_err-size : goal.returns-in_err-size
returns-in_err-size c = none_returned _ _ c.from_residual.result c.from_residual.ensures (no_size c.args.bytes.now c.in_err-size.ensures)

pub returns-then-size-rest : goal.returns-then-size-rest
returns-then-size-rest c = too_short c.args.bytes.now c.in_ok-size.size c.in_ok-size.rest.now c.in_ok-size.ensures (omega (arith, c.if-size-rest.true))
