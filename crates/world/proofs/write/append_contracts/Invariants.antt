use Rattle.std.proofs.Common.{◌≡◌, ◌++◌, take, length}
use Rattle.std.specs.Int.{w32, to_le_bytes}
use Rattle.std.specs.List.{flat_map}
use Rattle.spec_block.specs.Bytes.{contract_bytes}
use Rattle.world.specs.Views.{contract_view}
use Rattle.world.proofs.write.append_contracts.Given as goal

abbrev pub invariant-loop-contract : goal.invariant-loop-contract
invariant-loop-contract g l = l.out.items ≡ l.fn.out.items ++ (to_le_bytes w32 (length l.contracts) ++ flat_map (λ c. contract_bytes (contract_view c)) (take l.contract-index l.contracts))
