use Rattle.std.proofs.Common.{ℕ, List, ap, length, sym, ◌∙◌, arith}
use Rattle.serial.specs.Positions.{results_of}
use Rattle.interp.specs.Callee.{setting_view}
use Rattle.world.specs.Views.{world_view}
use Rattle.validator.proofs.Fits.{as_many_numbers, first_of_all, run_of}
use Rattle.validator.proofs.end.end_alone.Goals as goal

pub serial_core-requires : goal.serial_core-requires
serial_core-requires g c = c.requires.trial.within.known

pub compare-compared-requires-clause-few : goal.compare-compared-requires-clause-few
compare-compared-requires-clause-few g c =
    let t = c.args.trial.now in
    let many = as_many_numbers t.block.now t.order.now c.requires.trial.trial.order in
    let few = c.requires.trial.trial.few in
    let order = c.requires.trial.trial.order in
    omega (arith, many, few, ap (λ (l : List ℕ). length l) order)

pub compare-compared-requires-clause-receipts : goal.compare-compared-requires-clause-receipts
compare-compared-requires-clause-receipts g c =
    let t = c.args.trial.now in
    c.in_ok-receipts.ensures.receipts ∙ sym (as_many_numbers t.block.now t.order.now c.requires.trial.trial.order)

pub compare-compared-requires-clause-touched : goal.compare-compared-requires-clause-touched
compare-compared-requires-clause-touched g c =
    let t = c.args.trial.now in
    c.in_ok-receipts.ensures.touched ∙ sym (as_many_numbers t.block.now t.order.now c.requires.trial.trial.order)

pub returns : goal.returns
returns g c =
    let t = c.args.trial.now in
    let core = c.in_ok-receipts.field-0 in
    let world = world_view t.world.now in
    let block = t.block.now in
    let ran = results_of core.receipts.items core.touched.items in
    let setting = setting_view c.version.result c.contracts.result.now in
    let run =
    run_of world t.calls.now block setting t.order.now c.cells.result.now.cells ran core.cells.cells (λ k. record { contracts = c.contracts.ensures.contracts k; version = c.version.ensures k })
    c.requires.trial.trial.order c.cells.ensures c.in_ok-receipts.ensures.serial in
    first_of_all t _ c.requires.fit
    (c.verdict_by-verdict.ensures world t.calls.now t.fuel core.receipts.items core.touched.items core.cells.cells
    (record {
      run = run;
      many = c.in_ok-receipts.ensures.receipts ∙ sym c.in_ok-receipts.ensures.touched;
      compared = c.compare-compared.ensures;
      digest_is = c.in_ok-digest.ensures;
      next_is = c.in_ok-next.ensures;
    }))
