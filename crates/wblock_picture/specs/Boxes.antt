-- The boxes.
use Rattle.std.specs.Prelude.{ℕ, zero, suc, ◌+◌, List, [], ◌∷◌, ◌++◌, codes, decimal}
use Rattle.spec_block.specs.Worlds.{Position}
use Rattle.wblock_calls.specs.Receipts.{position_text}
use Rattle.wblock_picture.specs.declared.seat.Seat.{Seat}
use Rattle.wblock_picture.specs.Seats.{left_of, top_of}
use Rattle.wblock_picture.specs.Words.{letter, locks_text}

-- what is told of a position: `POS call C RECEIPT`, its wave and its locks
abbrev pub title : ℕ → Seat → Position → List ℕ
title number s p = position_text number p.call p.receipt ++ 10 ∷ codes "wave " ++ decimal s.wave ++ locks_text p.profile

-- the name of a wave, above its first box
abbrev pub wave_name : ℕ → ℕ → ℕ → List ℕ
wave_name zero x wave = codes "<text x=\"" ++ decimal x ++ codes "\" y=\"-8\">wave " ++ decimal wave ++ codes "</text>" ++ 10 ∷ []
wave_name (suc row) x wave = []

abbrev pub wave_text : Seat → List ℕ
wave_text s = wave_name s.row (left_of s) s.wave

-- the group of a box at this place
unfoldable pub box_front : List ℕ → ℕ → ℕ → List ℕ
box_front letter x y = codes "<g class=\"" ++ letter ++ codes "\" transform=\"translate(" ++ decimal x ++ codes " " ++ decimal y ++ codes ")\">"

-- the box in it, with what is told of it behind it
unfoldable pub box_inside : List ℕ → List ℕ → ℕ → ℕ → List ℕ
box_inside letter title width number =
    codes "<title>" ++ title ++ codes "</title><rect width=\"" ++ decimal width ++ codes "\" height=\"18\"/><text x=\"5\" y=\"13\">" ++ letter ++ codes " " ++ decimal number ++ codes "</text></g>" ++ 10 ∷ []

-- the box of a position: in the column of its wave, in its row
abbrev pub box_text : ℕ → Seat → Position → List ℕ
box_text number s p = wave_text s ++ box_front (letter p.receipt.outcome) (left_of s) (top_of s) ++ box_inside (letter p.receipt.outcome) (title number s p) s.width number

-- a box for each position that has a place, the first of them of this number
abbrev pub boxes : ℕ → List Seat → List Position → List ℕ
boxes number ss [] = []
boxes number [] (p ∷ ps) = []
boxes number (s ∷ ss) (p ∷ ps) = box_text number s p ++ boxes (number + 1) ss ps
