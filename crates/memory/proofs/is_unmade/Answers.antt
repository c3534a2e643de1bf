use Rattle.std.proofs.Common.{◌/◌, arith, vec_len}
use Rattle.memory.specs.Pieces.{piece_size}
use Rattle.memory.proofs.Lists.{is_zero}
use Rattle.memory.proofs.Copies.{unmade_in, found_empty, found_past}
use Rattle.memory.proofs.is_unmade.Goals as goal

pub returns-in-Some : goal.returns-in-Some
returns-in-Some g c = λ t.
    let ps = c.args.pieces.now.items in let i = c.args.at / piece_size in
    let item = c.in-Some.ensures.lookup in
    unmade_in ps c.args.at c.args.count (found_empty ps c.deref.result.now i c.in-Some.piece.now c.deref.ensures.value item.3.0 item.1 (is_zero (vec_len c.in-Some.piece.now) c.is_empty.result c.is_empty.ensures t)) (omega arith)

pub returns-in-None : goal.returns-in-None
returns-in-None g c = λ t.
    let ps = c.args.pieces.now.items in
    unmade_in ps c.args.at c.args.count (found_past ps c.deref.result.now (c.args.at / piece_size) c.deref.ensures.value c.in-None.ensures.lookup.0) (omega arith)
