-- Why bytes spell no world.
use Rattle.std.specs.Prelude.{◌≡◌, ℕ, List, [], ◌∷◌, ◌++◌, codes, decimal}
use Rattle.world.specs.Reading.{IsNoWorld, Refuses}
use Rattle.records.specs.declared.refusal.ReadRefusal.{ReadRefusal}
use Rattle.records.specs.declared.refusal.ReadRefusal.TheVariants as world

-- `refused world N P`
abbrev pub IsWorldLine : ReadRefusal → List ℕ → Type 0
IsWorldLine (world.Malformed at) line = line ≡ codes "refused world 1 " ++ decimal at ++ 10 ∷ []
IsWorldLine world.TooLarge line = line ≡ codes "refused world 2 -" ++ 10 ∷ []
IsWorldLine world.NoMemory line = ⊥

-- the bytes spell no world, and the line tells the first fault in them
pub record TellsNoWorld (bytes line : List ℕ) : Type 0 where
  pub none : IsNoWorld bytes
  pub refusal : ReadRefusal
  pub first : Refuses bytes refusal
  pub line_is : IsWorldLine refusal line
