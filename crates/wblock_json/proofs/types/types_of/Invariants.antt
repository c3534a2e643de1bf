use Rattle.std.proofs.Common.{◌≡◌, map, take}
use Rattle.serde_json.specs.View.{view}
use Rattle.wblock_json.specs.Modules.{type_data}
use Rattle.wblock_json.proofs.types.types_of.Given as goal

abbrev pub invariant-loop-value_type : goal.invariant-loop-value_type
invariant-loop-value_type l = map view l.values.items ≡ map type_data (take l.value_type-index l.types)
