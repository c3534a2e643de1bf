use Rattle.std.proofs.Common.{◌∙◌, ◌+◌, ◌++◌, ap, arith}
use Rattle.memory.specs.Pieces.{bytes_in}
use Rattle.memory.proofs.Copies.{read_more}
use Rattle.std.specs.Prelude.{option_copied}
use Rattle.memory.specs.Start.{begins}
use Rattle.memory.proofs.read_bytes.Goals as goal

pub loop-done-preserved : goal.loop-done-preserved
loop-done-preserved g c =
    let ps = c.args.pieces.now.items in let f = begins (option_copied c.args.start) in let i = c.loop-done.done in let kept = c.loop-done.invariant in (
      omega (arith, kept.0, c.in_piece-part.ensures.most),
      c.in_ok-read_in_piece.ensures ∙ (ap (λ l. l ++ bytes_in ps f (c.args.from + i) c.in_piece-part.result) kept.1 ∙ read_more ps f c.args.from i c.in_piece-part.result),
    )
