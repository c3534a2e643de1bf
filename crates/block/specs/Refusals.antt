-- Which refusal is answered.
use Rattle.std.specs.Prelude.{◌≡◌, ℕ, ◌-◌, Result, Err}
use Rattle.spec_block.specs.Worlds.{Block}
use Rattle.records.specs.declared.fault.Fault.{Fault}
use Rattle.records.specs.declared.fault.Fault.TheVariants as fault
use Rattle.records.specs.declared.refusal.BlockRefusal.{BlockRefusal}
use Rattle.records.specs.declared.refusal.BlockRefusal.TheVariants.{Malformed, TooLarge, NoMemory}

-- the refusal is the fault of reading so many bytes, unless memory was refused
abbrev pub Refuses : ℕ → BlockRefusal → Result Block Fault → Type 0
Refuses total (Malformed at) read = (left : ℕ) × (read ≡ Err (fault.Malformed left)) × (at ≡ total - left)
Refuses total TooLarge read = read ≡ Err fault.TooLarge
Refuses total NoMemory read = Unit {0}
