use Rattle.std.proofs.Common.{◌≡◌, ℕ, IfOk, string_bytes, append_assoc, sym, subst}
use Rattle.wblock_picture.proofs.Printed.{printed}
use Rattle.wblock_picture.specs.Seats.{left_of}
use Rattle.wblock_picture.specs.Boxes.{wave_name}
use Rattle.wblock_picture.proofs.boxes.wave_text_of.Goals as goal

pub returns-in-0 : goal.returns-in-0
returns-in-0 c =
    subst (λ (row : ℕ). IfOk c.format.result (λ text. string_bytes text ≡ wave_name row (left_of c.args.seat) c.args.seat.wave)) (sym c.in-0.is)
    (printed c.format.result _ _ c.format.ensures.ok (simp (append_assoc, c.from.ensures)))
