use Rattle.std.proofs.Common.{◌∙◌, List, sym, ap, subst, arith}
use Rattle.spec_ledger.specs.declared.Version.{Version}
use Rattle.spec_ledger.specs.Cells.{Cells}
use Rattle.spec_execution.specs.Serial.{Serial}
use Rattle.spec_block.specs.Worlds.{Contract, Block}
use Rattle.spec_block.specs.Blocks.{block_of}
use Rattle.spec_block.specs.Serial.{setting_of}
use Rattle.serial.specs.Positions.{results_of}
use Rattle.world.specs.Views.{world_view}
use Rattle.serial.proofs.Causes.{are_possible}
use Rattle.serial.proofs.BlocksLimits.{used_within}
use Rattle.serial.proofs.blocks.run_as.Goals as goal

pub build_block-requires-clause-fuel : goal.build_block-requires-clause-fuel
build_block-requires-clause-fuel g c =
    let core = c.in_ok-core.core in
    let within = used_within _ _ _ _ core.receipts.items core.touched.items _ (c.in_ok-core.ensures.receipts ∙ sym c.in_ok-core.ensures.touched) c.in_ok-core.ensures.serial in
    omega (arith, within, c.requires.limits)

pub build_block-requires-clause-possible : goal.build_block-requires-clause-possible
build_block-requires-clause-possible g c =
    let core = c.in_ok-core.core in
    are_possible _ _ _ _ core.receipts.items core.touched.items _ (c.in_ok-core.ensures.receipts ∙ sym c.in_ok-core.ensures.touched) c.in_ok-core.ensures.serial

pub returns-clause-of_order : goal.returns-clause-of_order
returns-clause-of_order g c =
    let calls = c.args.calls.now in
    let order = c.args.order.now in
    let world = world_view c.args.world.now in
    let ran = results_of c.in_ok-core.core.receipts.items c.in_ok-core.core.touched.items in
    let last = c.in_ok-core.core.cells.cells in
    let lent = c.contracts.ensures.contracts in
    let made = c.in_ok-build_block.ensures.block in
    let version = sym (ap (λ (b : Block). b.version) made) in
    record {
      of_order = record {
        ran = ran;
        last = last;
        serial = subst (λ (v : Version). Serial (setting_of v world) calls order world.cells ran last) version
            (subst (λ (cells : Cells). Serial (setting_of c.args.version world) calls order cells ran last) c.cells.ensures
            (subst (λ (cs : List Contract). Serial (record { contracts = cs; version = c.args.version }) calls order c.cells.result.now.cells ran last) lent c.in_ok-core.ensures.serial));
        is = made ∙ ap (λ (v : Version). block_of v world calls order ran last) version;
      };
      storage = c.in_ok-build_block.ensures.world;
    }

pub returns-clause-version : goal.returns-clause-version
returns-clause-version g c = ap (λ (b : Block). b.version) c.in_ok-build_block.ensures.block
