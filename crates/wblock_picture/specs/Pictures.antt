-- The whole picture.
use Rattle.std.specs.Prelude.{ℕ, ◌+◌, ◌*◌, nat_lt, ◌||◌, List, [], ◌∷◌, ◌++◌, codes, decimal, length, take, min}
use Rattle.figures.specs.declared.hottest.SharedLock.{SharedLock}
use Rattle.spec_block.specs.Worlds.{Position}
use Rattle.wblock_picture.specs.declared.edge.Edge.{Edge}
use Rattle.wblock_picture.specs.declared.scene.Scene.{Scene}
use Rattle.wblock_picture.specs.declared.scene.TheConstants.{MOST_BOXES, MOST_LINES, MOST_HOTTEST}
use Rattle.wblock_picture.specs.declared.seat.Seat.{Seat}
use Rattle.wblock_picture.specs.declared.head.Told.{Told}
use Rattle.wblock_picture.specs.Seats.{greatest_fuel, seats, span, columns, rows}
use Rattle.wblock_picture.specs.Boxes.{boxes}
use Rattle.wblock_picture.specs.Lines.{lines}
use Rattle.wblock_picture.specs.Heads.{head}

-- how many positions have a box
abbrev pub drawn : Scene → ℕ
drawn scene = min MOST_BOXES (min (length scene.positions.now) (length scene.waves.now))

abbrev pub drawn_positions : Scene → List Position
drawn_positions scene = take (drawn scene) scene.positions.now

-- where their boxes stand
abbrev pub drawn_seats : Scene → List Seat
drawn_seats scene = seats (greatest_fuel (drawn_positions scene)) [] (drawn_positions scene) (take (drawn scene) scene.waves.now)

abbrev pub drawn_edges : Scene → List Edge
drawn_edges scene = take MOST_LINES scene.edges.now

abbrev pub hot_locks : Scene → List SharedLock
hot_locks scene = take MOST_HOTTEST scene.hottest.now

-- what is told above the boxes
abbrev pub told : Scene → Told
told scene = record {
  positions = length scene.positions.now;
  waves = span scene.waves.now;
  drawn = drawn scene;
  lines = length (drawn_edges scene);
  more = scene.more_edges || nat_lt MOST_LINES (length scene.edges.now);
  greatest = greatest_fuel (drawn_positions scene);
  columns = columns (drawn_seats scene);
  rows = rows (drawn_seats scene);
}

-- how far below the top the boxes begin
abbrev pub top : Scene → ℕ
top scene = 116 + 16 * length (hot_locks scene)

-- the head, then the lines, and over them the boxes, so far below the top
unfoldable pub frame : List ℕ → ℕ → List ℕ → List ℕ → List ℕ
frame above below lines boxes =
    above ++ codes "<g transform=\"translate(24 " ++ decimal below ++ (codes ")\">" ++ 10 ∷ codes "<g class=\"lines\">" ++ 10 ∷ []) ++ lines ++ (codes "</g>" ++ 10 ∷ [])
    ++ boxes ++ (codes "</g>" ++ 10 ∷ codes "</svg>" ++ 10 ∷ [])

abbrev pub picture : Scene → List ℕ
picture scene =
    frame (head (told scene) (hot_locks scene) (top scene)) (top scene) (lines (drawn_seats scene) (drawn_edges scene)) (boxes 0 (drawn_seats scene) (drawn_positions scene))
