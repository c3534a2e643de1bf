-- What the files of a world and of calls give, and why they give nothing.
use Rattle.std.specs.Prelude.{◌≡◌, ℕ, ◌≤◌, ◌⊎◌, List, [], ◌∷◌, ◌++◌, Some, codes, decimal, length, vec_len, string_bytes}
use Rattle.spec_block.specs.Worlds.{World, Call}
use Rattle.spec_block.specs.Bytes.{SpellsWorld}
use Rattle.world.specs.Views.{world_view}
use Rattle.wblock_line.specs.Worlds.{TellsNoWorld}
use Rattle.wblock_calls.specs.Texts.{SpellsCalls}
use Rattle.wblock_calls.specs.Refusals.{Tells, IsCallsLine}
use Rattle.wblock_calls.specs.declared.reader.CallsRefusal.{CallsRefusal}
use Rattle.wblock_io.specs.Holding.{Holding}
use Rattle.wblock_line.specs.declared.inputs.Inputs.{Inputs}
use Rattle.wblock_line.specs.declared.inputs.Inputs.TheVariants.{Read, Refused}
use Rattle.wblock_line.specs.declared.inputs.WorldFile.{WorldFile}
use Rattle.wblock_line.specs.declared.inputs.WorldFile.TheVariants as file

-- the file of a name holds bytes of which this is true
pub record Holds (holds : Holding) (name : List ℕ) (Is : List ℕ → Type 0) : Type 0 where
  pub bytes : List ℕ
  pub held : holds name ≡ Some bytes
  pub is : Is bytes

-- the file of a name holds the bytes of the world
abbrev pub HoldsWorld : Holding → List ℕ → World → Type 0
HoldsWorld holds name world = Holds holds name (λ bytes. SpellsWorld bytes world)

-- what the file of a name gives of a world: the world that it holds, or the line that tells why it holds none
abbrev pub GivesWorld : Holding → List ℕ → WorldFile → Type 0
GivesWorld holds name (file.Read w) = HoldsWorld holds name (world_view w)
GivesWorld holds name (file.Refused line why) = Holds holds name (λ bytes. TellsNoWorld bytes (string_bytes line))

-- the file of a name holds the text of the calls, which are at most 65,535
abbrev pub HoldsCalls : Holding → List ℕ → List Call → Type 0
HoldsCalls holds name calls = Holds holds name (λ text. SpellsCalls text calls) × (length calls ≤ 65535)

-- the line tells the first line of the text that spells no call, or that the calls are too many
pub record TellsNoCalls (text line : List ℕ) : Type 0 where
  pub refusal : CallsRefusal
  pub why : Tells text refusal
  pub line_is : IsCallsLine refusal line

-- the line tells why the file of the world holds none, or, where it holds one, why the file of the calls holds none
abbrev pub TellsRefusal : Holding → List ℕ → List ℕ → List ℕ → Type 0
TellsRefusal holds world calls line =
    Holds holds world (λ bytes. TellsNoWorld bytes line)
    ⊎ ((w : World) × HoldsWorld holds world w × Holds holds calls (λ text. TellsNoCalls text line))

-- the file of the world is read, and then that of the calls, where the first holds a world
abbrev pub IsNextInput : Holding → List ℕ → List ℕ → List ℕ → Type 0
IsNextInput holds world calls name = (name ≡ world) ⊎ ((w : World) × HoldsWorld holds world w × (name ≡ calls))

-- a text has at most 65,535 calls
abbrev pub HasFew : Inputs → Type 0
HasFew (Read w cs) = vec_len cs ≤ 65535
HasFew (Refused line why) = Unit {0}

-- what the files give
abbrev pub Gives : Holding → List ℕ → List ℕ → Inputs → Type 0
Gives holds world calls (Read w cs) = HoldsWorld holds world (world_view w) × HoldsCalls holds calls cs.items
Gives holds world calls (Refused line why) = TellsRefusal holds world calls (string_bytes line)
