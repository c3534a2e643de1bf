-- What lines in memory are to come.
use Rattle.std.specs.Prelude.{ℕ, List, drop, map}
use Rattle.wblock_io.specs.declared.lines.MemoryLines.{MemoryLines}

abbrev pub coming_of : MemoryLines → List (List ℕ)
coming_of m = map (λ line. line.items) (drop m.at m.lines.items)
