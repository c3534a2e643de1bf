-- The lines.
use Rattle.std.specs.Prelude.{ℕ, ◌+◌, ◌-◌, List, [], ◌∷◌, ◌++◌, Option, Some, None, codes, decimal, slice_get}
use Rattle.wblock_picture.specs.declared.edge.Edge.{Edge}
use Rattle.wblock_picture.specs.declared.seat.Seat.{Seat}
use Rattle.wblock_picture.specs.declared.lines.TheConstants.{BEND, SAG}
use Rattle.wblock_picture.specs.Seats.{left_of, top_of}

-- a line from the right end of a box to the left end of one that waits for it, at half their height
abbrev pub line_text : Edge → Seat → Seat → List ℕ
line_text e s t =
    let x = left_of s + s.width in
    let y = top_of s + 9 in
    let to_x = left_of t in
    let to_y = top_of t + 9 in
    codes "<path d=\"M" ++ decimal x ++ codes " " ++ decimal y ++ codes "C" ++ decimal (x + BEND) ++ codes " " ++ decimal (y + SAG)
    ++ codes " " ++ decimal (to_x - BEND) ++ codes " " ++ decimal (to_y + SAG) ++ codes " " ++ decimal to_x ++ codes " " ++ decimal to_y
    ++ codes "\"><title>" ++ decimal e.after ++ codes " waits for " ++ decimal e.before ++ codes "</title></path>" ++ 10 ∷ []

-- where both have a box
abbrev pub line_at : Edge → Option Seat → Option Seat → List ℕ
line_at e None t = []
line_at e (Some s) None = []
line_at e (Some s) (Some t) = line_text e s t

abbrev pub lines : List Seat → List Edge → List ℕ
lines ss [] = []
lines ss (e ∷ es) = line_at e (slice_get ss e.before) (slice_get ss e.after) ++ lines ss es
