use Rattle.std.proofs.Common.{◌≡◌, ◌++◌, take, length}
use Rattle.std.specs.Int.{w32, to_le_bytes}
use Rattle.std.specs.List.{flat_map}
use Rattle.spec_block.specs.Bytes.{entry_bytes}
use Rattle.records.proofs.profile.append_profile.Given as goal

abbrev pub invariant-loop-entry : goal.invariant-loop-entry
invariant-loop-entry g l = l.out.items ≡ l.fn.out.items ++ (to_le_bytes w32 (length l.entries) ++ flat_map entry_bytes (take l.entry-index l.entries))
