use Rattle.std.proofs.Common.{◌≡◌, ℕ, ◌<◌, List, Some, Contains, length, slice_get, slice_index_or, sym, subst, ◌∙◌, take}
use Rattle.interp.specs.Callee.{setting_view}
use Rattle.spec_ledger.specs.Cells.{Cells}
use Rattle.spec_ledger.specs.declared.Version.{Version}
use Rattle.spec_execution.specs.Serial.{Serial}
use Rattle.spec_block.specs.Worlds.{Contract, order_of}
use Rattle.serial.specs.Positions.{results_of}
use Rattle.block_judge.specs.Judging.{Passes}
use Rattle.world.specs.Views.{world_view}
use Rattle.wblock_debug.proofs.Fuels.{fuel_is}
use Rattle.wblock_debug.proofs.Prefixes.{length_front, front_below}
use Rattle.wblock_debug.proofs.prefix.met_by.Goals as goal

pub returns-clause-met : goal.returns-clause-met
returns-clause-met g c =
    let world = world_view c.args.world.now in
    let calls = c.args.calls.now in
    let block = c.in_ok-fit.fit.block in
    let version = c.version-version.result in
    let ran = results_of c.in_ok-core.core.receipts.items c.in_ok-core.core.touched.items in
    let cells = c.in_ok-core.core.cells.cells in
    let passes = c.in_ok-fit.ensures.passed in
    let order_is = c.deref-2.ensures.value ∙ c.in_ok-fit.ensures.order in
    let prefix = take c.in-Some.place (order_of block) in
    record {
      block = block;
      judged = subst (λ (fuel : ℕ). Passes world calls fuel c.args.bytes.now block) (fuel_is calls c.args.given c.args.bytes.now c.in_ok-fuel.fuel block c.in_ok-fuel.ensures passes.spelled) passes;
      version_is = c.version-version.ensures;
      position = c.in-Some.place;
      stands = subst (λ (o : List ℕ). slice_get o c.in-Some.place ≡ Some c.args.number) (c.deref.ensures.value ∙ c.in_ok-fit.ensures.order) c.in-Some.ensures.there;
      ran = ran;
      serial = subst (λ (v : Version). Serial (record { contracts = world.contracts; version = v }) calls prefix world.cells ran cells) c.version-version.ensures
          (subst (λ (start : Cells). Serial (record { contracts = world.contracts; version = version }) calls prefix start ran cells) c.cells.ensures
          (subst (λ (cs : List Contract). Serial (record { contracts = cs; version = version }) calls prefix c.cells.result.now.cells ran cells) c.contracts.ensures.contracts
          (subst (λ (o : List ℕ). Serial (setting_view version c.contracts.result.now) calls (take c.in-Some.place o) c.cells.result.now.cells ran cells) order_is c.in_ok-core.ensures.serial)));
    }

pub returns-in_default-clause-met : goal.returns-in_default-clause-met
returns-in_default-clause-met g c =
    let world = world_view c.args.world.now in
    let calls = c.args.calls.now in
    let block = c.in_ok-fit.fit.block in
    let passes = c.in_ok-fit.ensures.passed in
    record {
      block = block;
      judged = subst (λ (fuel : ℕ). Passes world calls fuel c.args.bytes.now block) (fuel_is calls c.args.given c.args.bytes.now c.in_ok-fuel.fuel block c.in_ok-fuel.ensures passes.spelled) passes;
      absent = subst (λ (o : List ℕ). ¬ (Contains o c.args.number)) (c.deref.ensures.value ∙ c.in_ok-fit.ensures.order) c.in_default.ensures.absent;
    }

pub slice_bounds-serial_core-end : goal.slice_bounds-serial_core-end
slice_bounds-serial_core-end g c =
    length_front c.in-Some.place c.deref-2.result.now (subst (λ (o : List ℕ). c.in-Some.place < length o) (c.deref.ensures.value ∙ sym c.deref-2.ensures.value) c.in-Some.ensures.within)

pub serial_core-requires : goal.serial_core-requires
serial_core-requires g c =
    let calls = c.args.calls.now in
    front_below c.in-Some.place (length calls) c.deref-2.result.now
    (subst (λ (o : List ℕ). (k d : ℕ) → k < length o → slice_index_or o k d < length calls) (sym (c.deref-2.ensures.value ∙ c.in_ok-fit.ensures.order)) c.in_ok-fit.ensures.passed.known)
