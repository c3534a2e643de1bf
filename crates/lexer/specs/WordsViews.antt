-- What contracts see of words.
use Rattle.std.specs.Prelude.{List, map}
use Rattle.lexer.specs.declared.word.Piece.{Piece}
use Rattle.spec_text.specs.Words as W
use Rattle.lexer.specs.declared.word.Word.{Word}
use Rattle.lexer.specs.declared.word.Word.TheVariants as word
use Rattle.lexer.specs.Strings.{decoded}

-- a part of the text at its place
abbrev pub placed : Piece → W.Placed
placed piece = record { at = piece.at; text = piece.text.now }

abbrev pub view : Word → W.Word
view word.LeftBracket = W.LeftBracket
view word.RightBracket = W.RightBracket
view (word.Key key) = W.Key key
view (word.Op op) = W.Op op
view (word.OffsetIs piece) = W.OffsetIs (placed piece)
view (word.AlignIs piece) = W.AlignIs (placed piece)
view (word.Id piece) = W.Id (placed piece)
view (word.Number piece) = W.Number (placed piece)
view (word.Str piece) = W.Str (decoded piece.text.now)

abbrev pub views : List Word → List W.Word
views words = map view words
