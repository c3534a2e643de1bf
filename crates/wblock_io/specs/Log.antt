-- What files in memory hold.
use Rattle.std.specs.Prelude.{ℕ, List, [], ◌∷◌, if◌then◌else◌, map, string_bytes, Option, Some, None}
use Rattle.std.specs.Str.{bytes_eq}
use Rattle.wblock_io.specs.Holding.{Draft}
use Rattle.wblock_io.specs.declared.memory.Held.{Held}
use Rattle.wblock_io.specs.declared.memory.MemoryFiles.{MemoryFiles}

-- what the file of a name holds after one more was held, where it held this before
abbrev pub after : Held → List ℕ → Option (List ℕ) → Option (List ℕ)
after h name before = if bytes_eq (string_bytes h.name) name then Some h.bytes.items else before

-- what the file of a name holds after these were held one after another
abbrev pub held : List Held → List ℕ → Option (List ℕ) → Option (List ℕ)
held [] name before = before
held (h ∷ hs) name before = held hs name (after h name before)

-- what the files hold
abbrev pub held_by : MemoryFiles → List ℕ → Option (List ℕ)
held_by m name = held m.log.items name None

-- what a file is to hold
abbrev pub draft_of : Held → Draft
draft_of h = (string_bytes h.name, h.bytes.items)

-- what is written, and not held yet
abbrev pub drafted_by : MemoryFiles → List Draft
drafted_by m = map draft_of m.drafts.items
