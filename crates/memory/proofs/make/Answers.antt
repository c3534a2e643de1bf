use Rattle.std.proofs.Common.{◌≡◌, length, vec_len, arith, sym, ◌∙◌, ap, subst, ◌<◌}
use Rattle.std.specs.Prelude.{Some, MatchOption, option_copied}
use Rattle.std.proofs.lemmas.Option.{slice_get-get_or}
use Rattle.memory.specs.Pieces.{piece_size, IsPiece}
use Rattle.memory.specs.Start.{begins}
use Rattle.memory.proofs.Lists.{kept, made, same, is_zero, other}
use Rattle.memory.proofs.make.Goals as goal

pub returns-in_ok-piece-clause-kept : goal.returns-in_ok-piece-clause-kept
returns-in_ok-piece-clause-kept g c = kept c.args.pieces.now.items c.args.index c.in_ok-piece.piece c.in_ok-piece.ensures.len

pub returns-in_ok-piece-clause-made : goal.returns-in_ok-piece-clause-made
returns-in_ok-piece-clause-made g c = made c.args.pieces.now.items c.args.index c.in_ok-piece.piece c.in_ok-piece.ensures.len (omega (arith, c.args.pieces.now.ok.0))

pub returns-in_ok-piece-clause-same : goal.returns-in_ok-piece-clause-same
returns-in_ok-piece-clause-same g c =
    let ps = c.args.pieces.now.items in let old = c.index.result.now in
    let within : c.args.index < length ps = omega (arith, c.args.pieces.now.ok.0) in
    let empty = is_zero (vec_len old) c.is_empty.result c.is_empty.ensures c.if-is_empty.true in
    same ps c.args.index c.in_ok-piece.piece old (begins (option_copied c.args.start)) (slice_get-get_or ps c.args.index old within ∙ ap Some (sym c.index.ensures))
    (omega (arith, old.ok.0, empty)) c.in_ok-piece.ensures.len c.in_ok-piece.ensures.bytes

pub returns-else-is_empty-clause-made : goal.returns-else-is_empty-clause-made
returns-else-is_empty-clause-made g c =
    let ps = c.args.pieces.now.items in let old = c.index.result.now in
    let within : c.args.index < length ps = omega (arith, c.args.pieces.now.ok.0) in
    let piece = subst IsPiece (sym c.index.ensures) (c.requires.whole c.args.index old within) in
    let full = other (vec_len old) piece_size c.is_empty.result c.is_empty.ensures c.if-is_empty.false piece in
    let found = slice_get-get_or ps c.args.index old within ∙ ap Some (sym c.index.ensures) in
    subst (λ o. MatchOption o ⊥ (λ p. vec_len p ≡ piece_size)) (sym found) full
