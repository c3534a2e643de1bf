-- Reading a block from front to back.
use Rattle.std.specs.Prelude.{ℕ, zero, suc, List, Option, Some, None, Ok, Err, nat_lt, length, if◌then◌else◌}
use Rattle.std.specs.Int.{w32, w64}
use Rattle.spec_ledger.specs.declared.Version.{Version}
use Rattle.spec_ledger.specs.declared.Version.TheVariants.{One, Two}
use Rattle.spec_block.specs.Worlds.{Position, Block}
use Rattle.records.specs.declared.fault.Fault.TheVariants.{TooLarge}
use Rattle.records.specs.Reading.{Read, ◌>>=◌, number_at, front_at, tag_at, found, after_count}
use Rattle.records.specs.Positions.{position_at}

abbrev pub version_named : ℕ → Option Version
version_named zero = None
version_named (suc zero) = Some One
version_named (suc (suc zero)) = Some Two
version_named (suc (suc (suc n))) = None

unfoldable pub version_at : List ℕ → Read Version
version_at bytes = do
  number ← number_at w32 bytes
  found (version_named number.0) (length bytes) number.1

-- positions do not depend on one another
abbrev pub next_position_at : Version → Option Position → List ℕ → Read Position
next_position_at version before bytes = position_at version bytes

-- the bytes of the smallest position
abbrev pub smallest_position : Version → ℕ
smallest_position One = 17
smallest_position Two = 21

-- whether there are too many is tested first
unfoldable pub positions_at : Version → List ℕ → Read (List Position)
positions_at version bytes = do
  count ← number_at w32 bytes
  if nat_lt 65535 count.0 then Err TooLarge else after_count (next_position_at version) (smallest_position version) (length bytes) count

-- the magic is read as a number
unfoldable pub block_at : List ℕ → Read Block
block_at bytes = do
  header ← tag_at 0x4B4C4257 bytes
  version ← version_at header
  before ← front_at 32 version.1
  calls ← front_at 32 before.1
  positions ← positions_at version.0 calls.1
  fuel ← number_at w64 positions.1
  after ← front_at 32 fuel.1
  Ok (record { version = version.0; before = before.0; calls = calls.0; positions = positions.0; fuel = fuel.0; after = after.0 }, after.1)
