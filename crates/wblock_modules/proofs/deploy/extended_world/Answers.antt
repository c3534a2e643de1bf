use Rattle.std.proofs.Common.{List, ◌++◌, ap, map, length, arith, ◌∙◌}
use Rattle.std.proofs.lemmas.List.{map-append, length-append, length-map}
use Rattle.spec_block.specs.Worlds.{Contract}
use Rattle.world.specs.Views.{contract_view}
use Rattle.wblock_modules.proofs.deploy.extended_world.Goals as goal

pub new-world-requires : goal.new-world-requires
new-world-requires c =
    let mapped = length-map c.into_parts-all.result.0.items contract_view in
    let parts = ap length c.into_parts-all.ensures.contracts in
    let joined = length-append c.into_parts-all.result.0.items c.args.contracts.items in
    let all = ap length c.in_ok-append.ensures.items in
    omega (arith, c.requires, mapped, parts, joined, all)

pub returns : goal.returns
returns c =
    let behind = map contract_view c.args.contracts.items in
    let mapped = map-append contract_view c.into_parts-all.result.0.items c.args.contracts.items in
    let all = ap (map contract_view) c.in_ok-append.ensures.items in
    let contracts = c.new-world.ensures.contracts ∙ (all ∙ (mapped ∙ ap (λ (xs : List Contract). xs ++ behind) c.into_parts-all.ensures.contracts)) in
    let cells = c.new-world.ensures.cells ∙ c.into_parts-all.ensures.cells in
    λ k. record { contracts = contracts k; cells = cells k }
