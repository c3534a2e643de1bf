use Rattle.std.proofs.Common.{rules, ◌∙◌, ap, arith}
use Rattle.std.specs.Prelude.{Ok}
use Rattle.std.specs.Int.{w64}
use Rattle.numeric.proofs.Turns.{turned_left, turned_right}
use Rattle.numeric.proofs.bits_64.binary.Goals as goal

pub returns-in-Rotl : goal.returns-in-Rotl
returns-in-Rotl c = rw c.in-Rotl.is (ap Ok (c.rotate_left.ensures ∙ turned_left w64 c.args.x _ _ (omega arith) (omega arith) (search rules)))

pub returns-in-Rotr : goal.returns-in-Rotr
returns-in-Rotr c = rw c.in-Rotr.is (ap Ok (c.rotate_right.ensures ∙ turned_right w64 c.args.x _ _ (omega arith) (omega arith) (search rules)))
