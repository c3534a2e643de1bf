use Rattle.std.proofs.Common.{◌≡◌, ◌∙◌, ap, sym, length, arith}
use Rattle.std.proofs.lemmas.List.{length-map}
use Rattle.world.specs.Views.{contract_view}
use Rattle.world.proofs.after.world_after.Goals as goal

pub new-requires : goal.new-requires
new-requires g c =
    let copies = c.in_ok-copy_contracts.field-0.items in
    let lent = c.contracts.result.now in
    let many : length copies ≡ length lent = sym (length-map copies contract_view) ∙ (ap length c.in_ok-copy_contracts.ensures ∙ length-map lent contract_view) in
    omega (arith, many, c.in_ok-copy_contracts.field-0.ok.0, c.contracts.ensures.few)
