-- Lines that are read one after another.
use Rattle.std.specs.Prelude.{◌≡◌, ℕ, ◌<◌, ◌≤◌, List, [], ◌∷◌, length}
use Rattle.wblock_io.specs.declared.lines.NextLine.{NextLine}
use Rattle.wblock_io.specs.declared.lines.NextLine.TheVariants.{Line, TooLong, End}

-- the first of the lines that were to come was found, and those behind it are to come; or there was none
abbrev pub IsNextLine : (old : List (List ℕ)) → NextLine → (new : List (List ℕ)) → Type 0
IsNextLine old (Line bytes) new = (old ≡ bytes.items ∷ new) × (length bytes.items ≤ 1048576)
IsNextLine old TooLong new = (line : List ℕ) × (old ≡ line ∷ new) × (1048576 < length line)
IsNextLine old End new = (old ≡ []) × (new ≡ [])
