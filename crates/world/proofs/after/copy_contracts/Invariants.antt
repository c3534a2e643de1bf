use Rattle.std.proofs.Common.{◌≡◌, map, take}
use Rattle.world.specs.Views.{contract_view}
use Rattle.world.proofs.after.copy_contracts.Given as goal

abbrev pub invariant-loop-contract : goal.invariant-loop-contract
invariant-loop-contract g l = map contract_view l.copies.items ≡ take l.contract-index (map contract_view l.contracts)
