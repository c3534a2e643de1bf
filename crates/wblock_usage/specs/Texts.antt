-- A text that is printed, and nothing else.
use Rattle.std.specs.Prelude.{◌≡◌, [], string_bytes}
use Rattle.wblock_line.specs.declared.answer.Answer.{Answer}
use Rattle.wblock_line.specs.declared.answer.Answer.TheVariants.{Done, Refused}
use Rattle.wblock_line.specs.Answers.{EndsLine}

-- a text that ends with a newline is to be printed, and no file to be written
abbrev pub TellsText : Answer → Type 0
TellsText (Done writes text) = (writes.items ≡ []) × EndsLine (string_bytes text)
TellsText (Refused line why) = ⊥
