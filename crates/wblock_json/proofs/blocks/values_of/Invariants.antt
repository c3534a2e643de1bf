use Rattle.std.proofs.Common.{◌≡◌, map, take}
use Rattle.serde_json.specs.View.{view}
use Rattle.wblock_json.specs.Blocks.{value_data}
use Rattle.wblock_json.proofs.blocks.values_of.Given as goal

abbrev pub invariant-loop-value : goal.invariant-loop-value
invariant-loop-value l = map view l.values.items ≡ map value_data (take l.value-index l.list)
