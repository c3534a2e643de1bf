use Rattle.std.proofs.Common.{◌≡◌, ◌++◌, map, drop}
use Rattle.serde_json.specs.View.{view}
use Rattle.wblock_json.specs.Json.{numbered}
use Rattle.wblock_json.specs.Blocks.{calls_of, position_data}
use Rattle.wblock_json.proofs.blocks.positions_of.Given as goal

abbrev pub invariant-loop-position : goal.invariant-loop-position
invariant-loop-position l =
    let of = position_data (calls_of l.calls) l.chains in
    (l.number ≡ l.position-index)
    × (map view l.values.items ++ numbered of l.number (drop l.position-index l.positions) ≡ numbered of 0 l.positions)
