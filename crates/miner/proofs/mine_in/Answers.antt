use Rattle.std.proofs.Common.{◌∙◌, List, ℕ, ap, sym, subst, arith, length}
use Rattle.std.proofs.lemmas.List.{length-map}
use Rattle.spec_ledger.specs.declared.Version.{Version}
use Rattle.spec_ledger.specs.declared.Version.TheVariants.{Two}
use Rattle.spec_ledger.specs.Cells.{Cells}
use Rattle.spec_execution.specs.Serial.{Serial}
use Rattle.spec_block.specs.Worlds.{Contract, Block, limits, order_of}
use Rattle.spec_block.specs.Blocks.{Admissible, block_of}
use Rattle.spec_block.specs.Headline.{IsLeft}
use Rattle.spec_block.specs.Serial.{setting_of}
use Rattle.serial.specs.Positions.{results_of}
use Rattle.world.specs.Views.{world_view}
use Rattle.serial.proofs.Causes.{are_possible}
use Rattle.miner.proofs.Orders.{few, left_is, order_again}
use Rattle.miner.proofs.mine_in.Goals as goal

pub build_block_by-requires-clause-order : goal.build_block_by-requires-clause-order
build_block_by-requires-clause-order g c =
    let core = c.in_ok-order.field-0 in
    let at_most = few (limits c.args.calls.now) core.order.items c.args.block_fuel c.in_ok-order.ensures.admissible in
    omega (arith, at_most, length-map c.args.calls.now (λ call. call.fuel), ap length c.deref.ensures.value, c.requires.calls)

pub build_block_by-requires-clause-possible : goal.build_block_by-requires-clause-possible
build_block_by-requires-clause-possible g c κs within =
    let core = c.in_ok-order.field-0 in
    are_possible _ _ _ _ core.receipts.items core.touched.items _ (c.in_ok-order.ensures.receipts ∙ sym c.in_ok-order.ensures.touched) c.in_ok-order.ensures.serial

pub returns-clause-headline : goal.returns-clause-headline
returns-clause-headline g c =
    let core = c.in_ok-order.field-0 in
    let calls = c.args.calls.now in
    let world = world_view c.args.world.now in
    let order = c.deref.result.now in
    let ran = results_of core.receipts.items core.touched.items in
    let last = core.cells.cells in
    let same = sym c.deref.ensures.value in
    let lent = c.contracts.ensures.contracts in
    let over = subst (λ (cs : List Contract). Serial (record { contracts = cs; version = Two }) calls core.order.items c.cells.result.now.cells ran last) lent c.in_ok-order.ensures.serial in
    let from = subst (λ (cells : Cells). Serial (setting_of Two world) calls core.order.items cells ran last) c.cells.ensures over in
    let version = ap (λ (b : Block). b.version) c.in_ok-block.ensures.block in
    record {
      order = order;
      admissible = subst (λ (o : List ℕ). Admissible calls o c.args.block_fuel) same c.in_ok-order.ensures.admissible;
      of_order = record {
        ran = ran;
        last = last;
        serial = subst (λ (version : Version). Serial (setting_of version world) calls order world.cells ran last) (sym version) (subst (λ (o : List ℕ). Serial (setting_of Two world) calls o world.cells ran last) same from);
        is = c.in_ok-block.ensures.block ∙ ap (λ (v : Version). block_of v world calls order ran last) (sym version);
      };
      storage = c.in_ok-block.ensures.world;
    }

pub returns-clause-left : goal.returns-clause-left
returns-clause-left g c =
    let core = c.in_ok-order.field-0 in
    let calls = c.args.calls.now in
    let same = sym (ap length c.deref.ensures.value) in
    let again = order_again Two (world_view c.args.world.now) calls c.deref.result.now core.receipts.items core.touched.items core.cells.cells (c.in_ok-order.ensures.receipts ∙ same) (c.in_ok-order.ensures.touched ∙ same) in
    let order = ap order_of c.in_ok-block.ensures.block ∙ (again ∙ c.deref.ensures.value) in
    subst (λ (o : List ℕ). IsLeft calls o core.left.items) (sym order) (left_is calls core.order.items core.left.items c.in_ok-order.ensures.left)

pub returns-clause-by_workers : goal.returns-clause-by_workers
returns-clause-by_workers g c =
    let core = c.in_ok-order.field-0 in
    let same = sym (ap length c.deref.ensures.value) in
    let again = order_again Two (world_view c.args.world.now) c.args.calls.now c.deref.result.now core.receipts.items core.touched.items core.cells.cells (c.in_ok-order.ensures.receipts ∙ same) (c.in_ok-order.ensures.touched ∙ same) in
    let order = ap order_of c.in_ok-block.ensures.block ∙ (again ∙ c.deref.ensures.value) in
    omega (arith, c.in_ok-order.ensures.by_workers, ap length order, length-map (c.in_ok-block.block).positions (λ position. position.call))

pub returns-clause-order : goal.returns-clause-order
returns-clause-order g c unwatched =
    let core = c.in_ok-order.field-0 in
    let same = sym (ap length c.deref.ensures.value) in
    let again = order_again Two (world_view c.args.world.now) c.args.calls.now c.deref.result.now core.receipts.items core.touched.items core.cells.cells (c.in_ok-order.ensures.receipts ∙ same) (c.in_ok-order.ensures.touched ∙ same) in
    ap order_of c.in_ok-block.ensures.block ∙ again ∙ c.deref.ensures.value ∙ c.in_ok-order.ensures.order unwatched
