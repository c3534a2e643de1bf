use Rattle.std.proofs.Common.{◌≡◌, ◌∙◌, List, length, ap, sym, subst, arith, true, false}
use Rattle.std.proofs.lemmas.List.{length-map}
use Rattle.sha2.specs.Sha256.{sha256}
use Rattle.spec_ledger.specs.declared.Receipt.{Receipt}
use Rattle.serial.specs.Positions.{results_of}
use Rattle.spec_block.specs.Worlds.{World}
use Rattle.spec_block.specs.Bytes.{world_bytes}
use Rattle.spec_block.specs.Blocks.{positions, all_touched, world_after}
use Rattle.world.specs.Views.{contract_view, world_view}
use Rattle.serial.specs.OrderOutcomes.{ArePossible}
use Rattle.serial.proofs.BlocksOrders.{as_many}
use Rattle.miner.proofs.sealing.build_block_by.Goals as goal

pub new-next-requires : goal.new-next-requires
new-next-requires g c =
    let copies = c.in_ok-copy_contracts.field-0.items in
    let lent = c.contracts.result.now in
    let many : length copies ≡ length lent = sym (length-map copies contract_view) ∙ (ap length c.in_ok-copy_contracts.ensures ∙ length-map lent contract_view) in
    omega (arith, many, c.in_ok-copy_contracts.field-0.ok.0, c.contracts.ensures.few)

pub digests_and_parts-requires-clause-possible : goal.digests_and_parts-requires-clause-possible
digests_and_parts-requires-clause-possible g c κs within = subst (λ (rs : List Receipt). ArePossible rs) (sym c.deref.ensures.value) c.requires.possible

pub unreachable-requires : goal.unreachable-requires
unreachable-requires g c =
    let ran = results_of c.deref.result.now c.deref-2.result.now in
    let many = as_many (all_touched ran) 0 c.args.order.now ran in
    let no : false ≡ true = c.in-None.ensures.there.1 (omega (arith, c.in_ok-digests.told.positions.ok.0, ap length c.in_ok-digests.ensures.positions, many, c.requires.order)) in
    cc

pub returns-clause-block : goal.returns-clause-block
returns-clause-block g c =
    let next : world_view c.new-next.result ≡ world_after (world_view c.args.world.now) c.args.core.cells.cells =
    λ k. record { contracts = (c.new-next.ensures.contracts ∙ (c.in_ok-copy_contracts.ensures ∙ c.contracts.ensures.contracts)) k; cells = c.new-next.ensures.cells k } in
    let made = c.in_ok-digests.ensures.positions ∙ (λ k. positions c.args.order.now (results_of (c.deref.ensures.value k) (c.deref-2.ensures.value k))) in
    let after = c.in_ok-digests.ensures.after ∙ ap (λ (w : World). sha256 (world_bytes w)) next in
    c.in-Some.ensures.is ∙ (λ k. record { version = c.args.version; before = c.in_ok-digests.ensures.before k; calls = c.in_ok-digests.ensures.calls k; positions = made k; fuel = c.requires.fuel k; after = after k })

pub returns-clause-world : goal.returns-clause-world
returns-clause-world g c =
    let next : world_view c.new-next.result ≡ world_after (world_view c.args.world.now) c.args.core.cells.cells =
    λ k. record { contracts = (c.new-next.ensures.contracts ∙ (c.in_ok-copy_contracts.ensures ∙ c.contracts.ensures.contracts)) k; cells = c.new-next.ensures.cells k } in
    c.with_digest.ensures ∙ next
