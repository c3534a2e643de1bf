-- Where the boxes stand.
use Rattle.std.specs.Prelude.{ℕ, ◌+◌, ◌*◌, ◌/◌, ◌==◌, List, [], ◌∷◌, ◌++◌, count_by, min, max}
use Rattle.spec_block.specs.Worlds.{Position}
use Rattle.wblock_picture.specs.declared.seat.Seat.{Seat}
use Rattle.wblock_picture.specs.declared.seat.TheConstants.{COLUMN, ROW, LEAST_WIDTH, MOST_WIDTH}

-- the most fuel that one of them used
abbrev pub greatest_fuel : List Position → ℕ
greatest_fuel [] = 0
greatest_fuel (p ∷ ps) = max p.receipt.used (greatest_fuel ps)

-- as much of the full width as the fuel is of the most, but not too little to be seen
abbrev pub width : ℕ → ℕ → ℕ
width used greatest = max (min (used * MOST_WIDTH / max greatest 1) MOST_WIDTH) LEAST_WIDTH

-- each position stands in the column of its wave, one row below those before it in that wave
abbrev pub seats : ℕ → List ℕ → List Position → List ℕ → List Seat
seats greatest earlier [] ws = []
seats greatest earlier (p ∷ ps) [] = []
seats greatest earlier (p ∷ ps) (w ∷ ws) =
    record { wave = w; row = count_by (λ v. v == w) earlier; width = width p.receipt.used greatest } ∷ seats greatest (earlier ++ w ∷ []) ps ws

-- the left end of a box
abbrev pub left_of : Seat → ℕ
left_of s = s.wave * COLUMN

-- its top
abbrev pub top_of : Seat → ℕ
top_of s = s.row * ROW

-- how many numbers reach from 0 to the greatest of these
abbrev pub span : List ℕ → ℕ
span [] = 0
span (n ∷ ns) = max (n + 1) (span ns)

-- how many columns reach to the last box
abbrev pub columns : List Seat → ℕ
columns [] = 0
columns (s ∷ ss) = max (s.wave + 1) (columns ss)

-- how many rows
abbrev pub rows : List Seat → ℕ
rows [] = 0
rows (s ∷ ss) = max (s.row + 1) (rows ss)
