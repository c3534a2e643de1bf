-- What sentences begin with.
use Rattle.std.specs.Prelude.{ℕ, ◌+◌, List, ◌++◌, ◌==◌, not, Option, Some, None, codes, count_by, decimal, length, reverse, take_while}
use Rattle.wblock_calls.specs.Sentences.{Begins}
use Rattle.records.specs.declared.refusal.ReadRefusal.{ReadRefusal}
use Rattle.records.specs.declared.refusal.ReadRefusal.TheVariants as world
use Rattle.records.specs.declared.refusal.BlockRefusal.{BlockRefusal}
use Rattle.records.specs.declared.refusal.BlockRefusal.TheVariants as block

-- the line behind these characters of a text, from 1
abbrev pub line_of : List ℕ → ℕ
line_of before = count_by (λ b. b == 10) before + 1

-- and the column, in bytes from 1
abbrev pub column_of : List ℕ → ℕ
column_of before = length (take_while (λ b. not (b == 10)) (reverse before)) + 1

-- `function F`, or `item O` outside functions
abbrev pub broken_place : Option ℕ → ℕ → List ℕ
broken_place (Some func) ordinal = codes "function " ++ decimal func
broken_place None ordinal = codes "item " ++ decimal ordinal

-- a sentence on bytes that are no world begins with `world, byte P`, which is that of the number of contracts where they are too many
abbrev pub TellsWorld : ReadRefusal → List ℕ → Type 0
TellsWorld (world.Malformed at) sentence = Begins (codes "world, byte " ++ decimal at) sentence
TellsWorld world.TooLarge sentence = Begins (codes "world, byte " ++ decimal 8) sentence
TellsWorld world.NoMemory sentence = ⊥

-- a sentence on bytes that are no block begins with `block, byte P`, which is that of the number of positions where they are too many
abbrev pub TellsBlock : BlockRefusal → List ℕ → Type 0
TellsBlock (block.Malformed at) sentence = Begins (codes "block, byte " ++ decimal at) sentence
TellsBlock block.TooLarge sentence = Begins (codes "block, byte " ++ decimal 72) sentence
TellsBlock block.NoMemory sentence = ⊥
