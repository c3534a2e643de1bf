use Rattle.std.proofs.Common.{◌≡◌, map, take}
use Rattle.serde_json.specs.View.{view}
use Rattle.wblock_json.specs.Blocks.{entry_data}
use Rattle.wblock_json.proofs.blocks.locks_of.Given as goal

abbrev pub invariant-loop-entry : goal.invariant-loop-entry
invariant-loop-entry l = map view l.locks.items ≡ map entry_data (take l.entry-index l.entries)
