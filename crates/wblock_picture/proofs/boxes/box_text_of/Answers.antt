use Rattle.std.proofs.Common.{◌≡◌, ◌*◌, string_bytes, ap, ◌∙◌}
use Rattle.spec_ledger.specs.declared.Receipt.{Receipt}
use Rattle.wblock_picture.specs.declared.seat.TheConstants.{COLUMN, ROW}
use Rattle.wblock_picture.specs.Seats.{left_of, top_of}
use Rattle.wblock_picture.specs.Words.{letter}
use Rattle.wblock_picture.specs.Boxes.{title, box_front, box_inside}
use Rattle.wblock_picture.proofs.Parts.{box_parts, front_same, inside_same}
use Rattle.wblock_picture.proofs.Printed.{printed}
use Rattle.wblock_picture.proofs.boxes.box_text_of.Goals as goal

pub returns : goal.returns
returns c =
    let s = c.args.seat in
    let p = c.args.position.now in
    let l : c.letter_of-letter.result.now ≡ letter p.receipt.outcome = c.letter_of-letter.ensures ∙ ap (λ (r : Receipt). letter r.outcome) c.receipt.ensures in
    let front : string_bytes c.in_ok-front.front ≡ box_front (letter p.receipt.outcome) (left_of s) (top_of s) =
    c.in_ok-front.ensures ∙ front_same _ _ (c.from-x.result * COLUMN) (left_of s) (c.from-y.result * ROW) (top_of s) l (ap (λ n. n * COLUMN) c.from-x.ensures) (ap (λ n. n * ROW) c.from-y.ensures) in
    let inside : string_bytes c.in_ok-inside.inside ≡ box_inside (letter p.receipt.outcome) (title c.args.number s p) s.width c.args.number =
    c.in_ok-inside.ensures ∙ inside_same _ _ _ _ s.width c.args.number l (c.as_str.ensures.value ∙ c.in_ok-title.ensures) in
    printed c.format.result _ _ c.format.ensures.ok (box_parts _ _ _ _ _ _ c.in_ok-wave.ensures front inside)
