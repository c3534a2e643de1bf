use Rattle.std.proofs.Common.{ℕ, List, ◌++◌, length, sym, ap, ap₂, ◌∙◌}
use Rattle.std.specs.Int.{w32, to_le_bytes}
use Rattle.std.specs.List.{flat_map}
use Rattle.std.proofs.lemmas.List.{take_all, length-map}
use Rattle.link.specs.declared.deployed.Deployed.{Deployed}
use Rattle.spec_block.specs.Bytes.{contract_bytes}
use Rattle.records.proofs.Items.{one_more}
use Rattle.world.specs.Views.{contract_view}
use Rattle.world.proofs.WorldBytes.{by_views}
use Rattle.world.proofs.write.append_contracts.Goals as goal

pub loop-contract-preserved : goal.loop-contract-preserved
loop-contract-preserved g c =
    one_more (λ x. contract_bytes (contract_view x)) c.args.out.now.items (to_le_bytes w32 (length c.args.contracts.now)) c.loop-contract.out.items c.append_contract.new.out.items c.args.contracts.now c.loop-contract.contract-index c.contract-item.result
    c.loop-contract-test.true c.contract-item.is c.loop-contract.invariant c.in_ok-append_contract.ensures

pub returns : goal.returns
returns g c =
    let xs = c.args.contracts.now in
    let out = c.args.out.now.items in
    c.loop-contract.invariant
    ∙ (ap (λ (ys : List (Deployed g.row.A.Denot)). out ++ (to_le_bytes w32 (length xs) ++ flat_map (λ x. contract_bytes (contract_view x)) ys)) (take_all c.loop-contract.contract-index xs c.loop-contract-test.false)
    ∙ ap₂ (λ (n : ℕ) (s : List ℕ). out ++ (to_le_bytes w32 n ++ s)) (sym (length-map xs contract_view)) (sym (by_views xs)))
