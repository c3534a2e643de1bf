-- Rows of places and of what sentences begin with, computed.
use Rattle.std.specs.Prelude.{◌≡◌, [], ◌∷◌, codes, refl, Some, None}
use Rattle.std.specs.Fmt.{digits}
use Rattle.wblock_calls.specs.Sentences.{Begins}
use Rattle.wblock_words.specs.Sentences.{broken_place, line_of, column_of}

-- "ab", a newline, "c"
pub row_line : line_of (97 ∷ 98 ∷ 10 ∷ 99 ∷ []) ≡ 2
row_line = refl

pub row_column : column_of (97 ∷ 98 ∷ 10 ∷ 99 ∷ []) ≡ 2
row_column = refl

pub row_start : column_of [] ≡ 1
row_start = refl

pub row_function : broken_place (Some 3) 14 ≡ codes "function 3"
unfolding digits
row_function = refl

pub row_item : broken_place None 2 ≡ codes "item 2"
unfolding digits
row_item = refl

pub row_begins : Begins (codes "byte 7") (codes "byte 7: cut off")
row_begins = record { rest = codes ": cut off"; is = refl }
