use Rattle.std.proofs.Common.{◌∙◌, List, ℕ, ap, sym, subst, arith, length, get_or}
use Rattle.std.proofs.lemmas.List.{length-map}
use Rattle.std.proofs.lemmas.Option.{slice_get-get_or}
use Rattle.spec_ledger.specs.declared.Version.{Version}
use Rattle.spec_ledger.specs.declared.Version.TheVariants.{Two}
use Rattle.spec_ledger.specs.Cells.{Cells}
use Rattle.spec_ledger.specs.Order.{IsAdmissible}
use Rattle.spec_execution.specs.Serial.{Serial}
use Rattle.spec_block.specs.Worlds.{Contract, Block, limits, order_of}
use Rattle.spec_block.specs.Blocks.{Admissible, block_of}
use Rattle.spec_block.specs.Headline.{IsLeft}
use Rattle.spec_block.specs.Serial.{setting_of}
use Rattle.serial.specs.Positions.{results_of}
use Rattle.world.specs.Views.{world_view}
use Rattle.serial.proofs.BlocksLimits.{used_within}
use Rattle.serial.proofs.Causes.{are_possible}
use Rattle.miner.proofs.Orders.{few, left_is, order_again}
use Rattle.miner.proofs.alone.mine_alone.Goals as goal

pub serial_core-requires : goal.serial_core-requires
serial_core-requires g c k d lt =
    let calls = c.args.calls.now in
    let same = c.deref.ensures.value ∙ c.in_ok-order.ensures.order in
    let admissible = subst (λ (o : List ℕ). IsAdmissible (limits calls) o c.args.block_fuel) (sym same) (c.first_fit_is_admissible.ensures.admissible (limits calls) c.args.block_fuel) in
    let order = c.deref.result.now in
    let below = admissible.known k (get_or order k d) (slice_get-get_or order k d lt) in omega (arith, below, length-map calls (λ call. call.fuel))

pub build_block-requires-clause-order : goal.build_block-requires-clause-order
build_block-requires-clause-order g c =
    let calls = c.args.calls.now in
    let same = c.deref-2.ensures.value ∙ c.in_ok-order.ensures.order in
    let admissible = subst (λ (o : List ℕ). IsAdmissible (limits calls) o c.args.block_fuel) (sym same) (c.first_fit_is_admissible.ensures.admissible (limits calls) c.args.block_fuel) in
    let at_most = few (limits calls) c.deref-2.result.now c.args.block_fuel admissible in
    omega (arith, at_most, length-map calls (λ call. call.fuel), c.requires)

pub build_block-requires-clause-possible : goal.build_block-requires-clause-possible
build_block-requires-clause-possible g c =
    let core = c.in_ok-core.core in
    are_possible _ _ _ _ core.receipts.items core.touched.items _ (c.in_ok-core.ensures.receipts ∙ sym c.in_ok-core.ensures.touched) c.in_ok-core.ensures.serial

pub build_block-requires-clause-receipts : goal.build_block-requires-clause-receipts
build_block-requires-clause-receipts g c = c.in_ok-core.ensures.receipts ∙ ap length (c.deref.ensures.value ∙ sym c.deref-2.ensures.value)

pub build_block-requires-clause-touched : goal.build_block-requires-clause-touched
build_block-requires-clause-touched g c = c.in_ok-core.ensures.touched ∙ ap length (c.deref.ensures.value ∙ sym c.deref-2.ensures.value)

pub build_block-requires-clause-fuel : goal.build_block-requires-clause-fuel
build_block-requires-clause-fuel g c =
    let calls = c.args.calls.now in
    let core = c.in_ok-core.core in
    let same = c.deref.ensures.value ∙ c.in_ok-order.ensures.order in
    let admissible = subst (λ (o : List ℕ). IsAdmissible (limits calls) o c.args.block_fuel) (sym same) (c.first_fit_is_admissible.ensures.admissible (limits calls) c.args.block_fuel) in
    let used = used_within _ _ _ _ core.receipts.items core.touched.items _ (c.in_ok-core.ensures.receipts ∙ sym c.in_ok-core.ensures.touched) c.in_ok-core.ensures.serial in
    let all = admissible.within in
    omega (arith, used, all, c.ranges.block_fuel.fits)

pub returns-clause-headline : goal.returns-clause-headline
returns-clause-headline g c =
    let core = c.in_ok-core.core in
    let calls = c.args.calls.now in
    let world = world_view c.args.world.now in
    let order = c.deref-2.result.now in
    let ran = results_of core.receipts.items core.touched.items in
    let last = core.cells.cells in
    let same = c.deref-2.ensures.value ∙ c.in_ok-order.ensures.order in
    let over = subst (λ (cs : List Contract). Serial (record { contracts = cs; version = Two }) calls c.deref.result.now c.cells.result.now.cells ran last) c.contracts.ensures.contracts c.in_ok-core.ensures.serial in
    let from = subst (λ (cells : Cells). Serial (setting_of Two world) calls c.deref.result.now cells ran last) c.cells.ensures over in
    let version = ap (λ (b : Block). b.version) c.in_ok-block.ensures.block in
    record {
      order = order;
      admissible = subst (λ (o : List ℕ). Admissible calls o c.args.block_fuel) (sym same) (c.first_fit_is_admissible.ensures.admissible (limits calls) c.args.block_fuel);
      of_order = record {
        ran = ran;
        last = last;
        serial = subst (λ (version : Version). Serial (setting_of version world) calls order world.cells ran last) (sym version)
            (subst (λ (o : List ℕ). Serial (setting_of Two world) calls o world.cells ran last) (c.deref.ensures.value ∙ sym c.deref-2.ensures.value) from);
        is = c.in_ok-block.ensures.block ∙ ap (λ (v : Version). block_of v world calls order ran last) (sym version);
      };
      storage = c.in_ok-block.ensures.world;
    }

pub returns-clause-order : goal.returns-clause-order
returns-clause-order g c =
    let core = c.in_ok-core.core in
    let same = ap length (c.deref.ensures.value ∙ sym c.deref-2.ensures.value) in
    let again = order_again Two (world_view c.args.world.now) c.args.calls.now c.deref-2.result.now core.receipts.items core.touched.items core.cells.cells (c.in_ok-core.ensures.receipts ∙ same) (c.in_ok-core.ensures.touched ∙ same) in
    ap order_of c.in_ok-block.ensures.block ∙ again ∙ c.deref-2.ensures.value ∙ c.in_ok-order.ensures.order

pub returns-clause-version : goal.returns-clause-version
returns-clause-version g c = ap (λ (b : Block). b.version) c.in_ok-block.ensures.block

pub returns-clause-left : goal.returns-clause-left
returns-clause-left g c =
    let core = c.in_ok-core.core in
    let fit = c.in_ok-order.field-0 in
    let calls = c.args.calls.now in
    let same = ap length (c.deref.ensures.value ∙ sym c.deref-2.ensures.value) in
    let again = order_again Two (world_view c.args.world.now) calls c.deref-2.result.now core.receipts.items core.touched.items core.cells.cells (c.in_ok-core.ensures.receipts ∙ same) (c.in_ok-core.ensures.touched ∙ same) in
    let order = ap order_of c.in_ok-block.ensures.block ∙ (again ∙ c.deref-2.ensures.value) in
    subst (λ (o : List ℕ). IsLeft calls o fit.left.items) (sym order) (left_is calls fit.order.items fit.left.items c.in_ok-order.ensures.left)
