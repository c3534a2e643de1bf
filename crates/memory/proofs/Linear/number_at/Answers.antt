use Rattle.std.proofs.Common.{◌∙◌, ◌%◌, ◌*◌, sym, ap, arith}
use Rattle.std.specs.Prelude.{slice_index, option_copied}
use Rattle.spec_modules.specs.Profile.{page_size}
use Rattle.memory.specs.Pieces.{piece_size, byte_in, number_in}
use Rattle.memory.specs.Start.{begins}
use Rattle.memory.proofs.Lists.{in_this, loaded}
use Rattle.memory.proofs.Linear.number_at.Goals as goal

pub returns-in-8-clause-value : goal.returns-in-8-clause-value
returns-in-8-clause-value g c =
    let ps = c.self.inside.pieces.items in
    let f = begins (option_copied c.self.inside.start) in
    let item = c.in-Some.ensures.lookup in
    loaded c.args.self.now ps f (page_size * c.self.inside.size) c.self.inside.max c.args.at c.args.width c.eight.result c.self.view_is c.requires.in_range
    (c.eight.ensures.value ∙ (ap (λ xs. number_in (slice_index xs) (c.args.at % piece_size) 8) c.as_slice.ensures.value
    ∙ (in_this ps c.deref.result.now f c.args.at 8 c.in-Some.piece.now c.deref.ensures.value c.self.invariant.whole item.3.0 item.1 (omega (arith, c.if-offset-width.true, c.len.ensures, c.in-8.is))
    ∙ ap (λ n. number_in (byte_in ps f) c.args.at n) (sym c.in-8.is))))

pub returns-in-4-clause-value : goal.returns-in-4-clause-value
returns-in-4-clause-value g c =
    let ps = c.self.inside.pieces.items in
    let f = begins (option_copied c.self.inside.start) in
    let item = c.in-Some.ensures.lookup in
    loaded c.args.self.now ps f (page_size * c.self.inside.size) c.self.inside.max c.args.at c.args.width c.four.result c.self.view_is c.requires.in_range
    (c.four.ensures.value ∙ (ap (λ xs. number_in (slice_index xs) (c.args.at % piece_size) 4) c.as_slice-in-4.ensures.value
    ∙ (in_this ps c.deref.result.now f c.args.at 4 c.in-Some.piece.now c.deref.ensures.value c.self.invariant.whole item.3.0 item.1 (omega (arith, c.if-offset-width.true, c.len.ensures, c.in-4.is))
    ∙ ap (λ n. number_in (byte_in ps f) c.args.at n) (sym c.in-4.is))))

pub returns-in-2-clause-value : goal.returns-in-2-clause-value
returns-in-2-clause-value g c =
    let ps = c.self.inside.pieces.items in
    let f = begins (option_copied c.self.inside.start) in
    let item = c.in-Some.ensures.lookup in
    loaded c.args.self.now ps f (page_size * c.self.inside.size) c.self.inside.max c.args.at c.args.width c.two.result c.self.view_is c.requires.in_range
    (c.two.ensures.value ∙ (ap (λ xs. number_in (slice_index xs) (c.args.at % piece_size) 2) c.as_slice-in-2.ensures.value
    ∙ (in_this ps c.deref.result.now f c.args.at 2 c.in-Some.piece.now c.deref.ensures.value c.self.invariant.whole item.3.0 item.1 (omega (arith, c.if-offset-width.true, c.len.ensures, c.in-2.is))
    ∙ ap (λ n. number_in (byte_in ps f) c.args.at n) (sym c.in-2.is))))

pub returns-in-1-clause-value : goal.returns-in-1-clause-value
returns-in-1-clause-value g c =
    let ps = c.self.inside.pieces.items in
    let f = begins (option_copied c.self.inside.start) in
    let item = c.in-Some.ensures.lookup in
    loaded c.args.self.now ps f (page_size * c.self.inside.size) c.self.inside.max c.args.at c.args.width c.one.result c.self.view_is c.requires.in_range
    (c.one.ensures.value ∙ (ap (λ xs. number_in (slice_index xs) (c.args.at % piece_size) 1) c.as_slice-in-1.ensures.value
    ∙ (in_this ps c.deref.result.now f c.args.at 1 c.in-Some.piece.now c.deref.ensures.value c.self.invariant.whole item.3.0 item.1 (omega (arith, c.if-offset-width.true, c.len.ensures, c.in-1.is))
    ∙ ap (λ n. number_in (byte_in ps f) c.args.at n) (sym c.in-1.is))))
