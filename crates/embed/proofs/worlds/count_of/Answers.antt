use Rattle.std.proofs.Common.{ap, length, arith}
use Rattle.std.proofs.lemmas.List.{length-map}
use Rattle.world.specs.Views.{contract_view}
use Rattle.embed.proofs.worlds.count_of.Goals as goal

pub returns-clause-count : goal.returns-clause-count
returns-clause-count c =
    let mapped = length-map c.contracts.result.now contract_view in
    let same = ap length c.contracts.ensures.contracts in
    omega (arith, mapped, same)
