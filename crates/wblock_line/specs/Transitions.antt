-- What a command makes of a world.
use Rattle.std.specs.Prelude.{◌≡◌, ℕ, List, [], ◌∷◌, ◌++◌, Option, Some, None, map, string_bytes, vec_len}
use Rattle.spec_block.specs.Bytes.{world_bytes}
use Rattle.world.specs.Views.{world_view}
use Rattle.wblock_line.specs.declared.perform.Status.TheVariants as status
use Rattle.wblock_line.specs.declared.transition.NextWorld.{NextWorld}
use Rattle.wblock_line.specs.declared.transition.Transition.{Transition}
use Rattle.wblock_line.specs.declared.transition.Transition.TheVariants.{Done, Refused}
use Rattle.wblock_line.specs.Answers.{Written, Upshot, write_of}

-- the world that is left, in the file of its name
abbrev pub next_write : Option NextWorld → List Written
next_write None = []
next_write (Some next) = (next.name.now, world_bytes (world_view next.world)) ∷ []

-- what the command comes to: the world that it leaves is written behind its other files
abbrev pub leaving : Transition → Upshot
leaving (Done change) = record { status = status.Done; writes = map write_of change.writes.items ++ next_write change.next; text = string_bytes change.text; why = [] }
leaving (Refused line why) = record { status = status.Refused; writes = []; text = string_bytes line; why = string_bytes why }

-- so many files are written beside the world
abbrev pub WritesBeside : ℕ → Transition → Type 0
WritesBeside count (Done change) = vec_len change.writes ≡ count
WritesBeside count (Refused line why) = Unit {0}

-- what is said of it once it is done
abbrev pub note_in : Transition → List ℕ
note_in (Done change) = string_bytes change.note
note_in (Refused line why) = []
