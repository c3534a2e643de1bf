-- What the words of a line ask to debug.
use Rattle.std.specs.Prelude.{◌≡◌, ◌⊎◌, ℕ, ◌<◌, ◌^◌, List, [], ◌∷◌, Option, Some, None, codes, decimal, filter, length}
use Rattle.std.specs.Borrow.{Bor}
use Rattle.wblock_line.specs.Words.{Line, Choice}
use Rattle.wblock_usage.specs.Words.{Spell}
use Rattle.wblock_call.specs.Styles.{AsksStyle, is_other}
use Rattle.wblock_debug.specs.declared.asked.Debugging.{Debugging}

-- the words are `debug`, these three and the words of commands, at least one
pub record IsSplit (words : List (List ℕ)) (world calls call : List ℕ) (commands : List (List ℕ)) : Type 0 where
  pub words_are : words ≡ codes "debug" ∷ world ∷ calls ∷ call ∷ commands
  pub some : 0 < length commands

-- `debug WORLD CALLS CALL CMD...`, whatever the options
pub record AsksWords (words : List (List ℕ)) (d : Debugging) : Type 0 where
  -- the words of the commands
  pub spelling : List (List ℕ)
  pub split : IsSplit words d.world.now d.calls.now (decimal d.call) spelling
  pub in_range : d.call < 2 ^ 64
  pub spelled : Spell spelling d.commands.items

-- `--block BLOCK` and `--fuel N`, a number of 64 bits
pub record AreBlockWithFuel (block fuel : Choice) (name : List ℕ) (n : ℕ) : Type 0 where
  pub block_is : block ≡ (codes "--block", name)
  pub fuel_is : fuel ≡ (codes "--fuel", decimal n)
  pub in_range : n < 2 ^ 64

abbrev pub AreBlockWithFuelInAnyOrder : (first second : Choice) → List ℕ → ℕ → Type 0
AreBlockWithFuelInAnyOrder first second name n = AreBlockWithFuel first second name n ⊎ AreBlockWithFuel second first name n

-- `--block BLOCK`, with `--fuel N` or without it; or nothing
abbrev pub AsksBlock : List Choice → Option (Bor (List ℕ)) → Option ℕ → Type 0
AsksBlock [] None None = Unit {0}
AsksBlock (only ∷ []) (Some block) None = only ≡ (codes "--block", block.now)
AsksBlock (first ∷ second ∷ []) (Some block) (Some fuel) = AreBlockWithFuelInAnyOrder first second block.now fuel
AsksBlock _ _ _ = ⊥

-- `debug WORLD CALLS CALL CMD... [--block BLOCK [--fuel N]] [--json] [--signed]`
pub record AsksDebug (line : Line) (d : Debugging) : Type 0 where
  pub words : AsksWords line.words d
  pub style : AsksStyle line.options d.style
  pub block : AsksBlock (filter is_other line.options) d.block d.fuel
