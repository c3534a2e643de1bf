-- What stands above the boxes.
use Rattle.std.specs.Prelude.{ℕ, ◌+◌, ◌*◌, Bool, true, false, List, [], ◌∷◌, ◌++◌, codes, decimal, max}
use Rattle.figures.specs.declared.hottest.SharedLock.{SharedLock}
use Rattle.wblock_picture.specs.declared.head.Told.{Told}
use Rattle.wblock_picture.specs.declared.head.TheConstants.{STYLE, LEGEND}
use Rattle.wblock_picture.specs.declared.seat.TheConstants.{COLUMN, ROW}
use Rattle.figures.specs.Words.{lock_text}

-- the first line: the picture is as wide as the columns, at least 720, and as high as the head and the rows
abbrev pub size_text : Told → ℕ → List ℕ
size_text told top =
    let width = decimal (max (24 + COLUMN * told.columns) 720) in
    let height = decimal (top + ROW * told.rows + 24) in
    codes "<svg xmlns=\"http://www.w3.org/2000/svg\" width=\"" ++ width ++ codes "\" height=\"" ++ height ++ codes "\" viewBox=\"0 0 " ++ width ++ codes " " ++ height ++ codes "\">" ++ 10 ∷ []

abbrev pub summary : Told → List ℕ
summary told =
    codes "<text class=\"name\" x=\"24\" y=\"26\">" ++ decimal told.positions ++ codes " positions in " ++ decimal told.waves ++ codes " waves</text>" ++ 10 ∷ []

abbrev pub more_word : Bool → List ℕ
more_word true = codes ", and not all"
more_word false = []

-- how many have a box and a line, and the scale
abbrev pub drawn_text : Told → List ℕ
drawn_text told =
    codes "<text x=\"24\" y=\"76\">drawn: " ++ decimal told.drawn ++ codes " positions, " ++ decimal told.lines ++ codes " lines" ++ more_word told.more
    ++ codes "; a box of full width used " ++ decimal told.greatest ++ codes " fuel</text>" ++ 10 ∷ []

-- how many positions hold a lock
abbrev pub hot_text : ℕ → SharedLock → List ℕ
hot_text number hot =
    codes "<text x=\"24\" y=\"" ++ decimal (92 + 16 * number) ++ codes "\">hot: " ++ lock_text hot.lock ++ codes ", in " ++ decimal hot.positions ++ codes " positions</text>" ++ 10 ∷ []

abbrev pub hot_texts : ℕ → List SharedLock → List ℕ
hot_texts number [] = []
hot_texts number (h ∷ hs) = hot_text number h ++ hot_texts (number + 1) hs

-- all of it, where the boxes begin so far below the top
unfoldable pub head : Told → List SharedLock → ℕ → List ℕ
head told hottest top = size_text told top ++ STYLE.now ++ summary told ++ LEGEND.now ++ drawn_text told ++ hot_texts 0 hottest
