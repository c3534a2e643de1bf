use Rattle.std.proofs.Common.{◌≡◌, ◌∙◌, length, ap, sym, arith, true, false}
use Rattle.sha2.specs.Sha256.{sha256}
use Rattle.serial.specs.Positions.{results_of}
use Rattle.spec_block.specs.Worlds.{World}
use Rattle.spec_block.specs.Bytes.{world_bytes}
use Rattle.spec_block.specs.Blocks.{positions, all_touched}
use Rattle.serial.specs.OrderOutcomes.{fuel_of_receipts}
use Rattle.serial.proofs.BlocksLimits.{fuel_is}
use Rattle.serial.proofs.BlocksOrders.{as_many}
use Rattle.serial.proofs.blocks.build_block.Goals as goal

pub unreachable-requires : goal.unreachable-requires
unreachable-requires g c =
    let ran = results_of c.deref.result.now c.deref-2.result.now in
    let many = as_many (all_touched ran) 0 c.args.order.now ran in
    let no : false ≡ true = c.in-None.ensures.there.1 (omega (arith, c.in_ok-positions.positions.ok.0, ap length c.in_ok-positions.ensures, many, c.requires.order)) in
    cc

pub returns-clause-block : goal.returns-clause-block
returns-clause-block g c =
    let receipts = c.args.core.receipts.items in
    let touched = c.args.core.touched.items in
    let made = c.in_ok-positions.ensures ∙ (λ k. positions c.args.order.now (results_of (c.deref.ensures.value k) (c.deref-2.ensures.value k))) in
    let fuel = c.fuel_of-fuel.ensures ∙ (ap fuel_of_receipts c.deref-3.ensures.value ∙ fuel_is receipts touched (c.requires.receipts ∙ sym c.requires.touched)) in
    let after = c.in_ok-after.ensures ∙ ap (λ (w : World). sha256 (world_bytes w)) c.in_ok-next.ensures in
    c.in-Some.ensures.is ∙ (λ k. record { version = c.args.version; before = c.in_ok-before.ensures k; calls = c.in_ok-calls_digest.ensures k; positions = made k; fuel = fuel k; after = after k })
