-- Refusals.
use Rattle.std.specs.Prelude.{ℕ, ◌≤◌, List, ⊤}
use Rattle.spec_modules.specs.Syntax.{Module}
use Rattle.spec_modules.specs.Spells.{Spells}
use Rattle.expr_reader.specs.declared.LoadRefusal.{LoadRefusal}
use Rattle.expr_reader.specs.declared.LoadRefusal.TheVariants.{Malformed, Unsupported, TooLarge, NoMemory}

-- the bytes spell no module within the limits
abbrev pub NoModule : List ℕ → Type 0
NoModule bytes = (m : Module) → Spells bytes m → ⊥

-- an offset is at most this count of bytes
abbrev pub IsWithin : ℕ → LoadRefusal → Type 0
IsWithin len NoMemory = ⊤
IsWithin len (Malformed at) = at ≤ len
IsWithin len (Unsupported at) = at ≤ len
IsWithin len (TooLarge limit) = ⊤
