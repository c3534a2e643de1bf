use Rattle.std.proofs.Common.{◌≡◌, ◌++◌, drop, map}
use Rattle.serde_json.specs.View.{view}
use Rattle.world.specs.Views.{contract_view}
use Rattle.wblock_json.specs.Json.{numbered}
use Rattle.wblock_json.specs.Worlds.{contract_data}
use Rattle.wblock_json.proofs.worlds.contracts_of.Given as goal

abbrev pub invariant-loop-contract : goal.invariant-loop-contract
invariant-loop-contract l =
    (l.number ≡ l.contract-index) × (map view l.values.items ++ numbered contract_data l.number (map contract_view (drop l.contract-index l.contracts)) ≡ numbered contract_data 0 (map contract_view l.contracts))
