-- Reading a position of a block from front to back.
use Rattle.std.specs.Prelude.{ℕ, List, Ok}
use Rattle.std.specs.Int.{w32}
use Rattle.spec_ledger.specs.declared.Version.{Version}
use Rattle.spec_block.specs.Worlds.{Position}
use Rattle.spec_block.specs.Bytes.{IsPosition, ForVersion}
use Rattle.records.specs.Reading.{Read, ◌>>=◌, number_at}
use Rattle.records.specs.Values.{receipt_at}
use Rattle.records.specs.Profiles.{profile_at}

unfoldable pub position_at : Version → List ℕ → Read Position
position_at version bytes = do
  call ← number_at w32 bytes
  receipt ← receipt_at version call.1
  profile ← profile_at receipt.1
  Ok (record { call = call.0; receipt = receipt.0; profile = profile.0 }, profile.1)

-- ---- what is read

-- a position that a block of this version can tell
abbrev pub IsPositionIn : Version → Position → Type 0
IsPositionIn version p = IsPosition p × ForVersion version p.receipt
