use Rattle.std.proofs.Common.{◌≡◌, ◌++◌, drop, map, string_bytes}
use Rattle.world.specs.Views.{contract_view}
use Rattle.wblock_contents.specs.Lines.{numbered}
use Rattle.wblock_contents.specs.WorldText.{contract_text}
use Rattle.wblock_contents.proofs.worlds.contracts_text_of.Given as goal

abbrev pub invariant-loop-contract : goal.invariant-loop-contract
invariant-loop-contract l =
    (l.number ≡ l.contract-index) × (string_bytes l.text ++ numbered contract_text l.number (map contract_view (drop l.contract-index l.contracts)) ≡ numbered contract_text 0 (map contract_view l.contracts))
