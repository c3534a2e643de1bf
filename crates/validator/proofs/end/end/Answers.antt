use Rattle.std.proofs.Common.{List, length, ◌∙◌, sym, subst, arith}
use Rattle.std.proofs.lemmas.List.{take_all}
use Rattle.serial.specs.Positions.{results_of}
use Rattle.spec_block.specs.Worlds.{Call}
use Rattle.spec_block.specs.Verdicts.{RunOf}
use Rattle.spec_execution.specs.Serial.{Serial}
use Rattle.interp.specs.Callee.{setting_view}
use Rattle.world.specs.Views.{world_view}
use Rattle.validator.proofs.Fits.{as_many_numbers, first_of_all, run_of}
use Rattle.validator.proofs.end.end.Goals as goal

pub returns-clause-verdict : goal.returns-clause-verdict
returns-clause-verdict g c =
    let job = c.args.job.now in
    let o = job.ordered in
    let t = job.trial.now in
    let world = world_view t.world.now in
    let block = t.block.now in
    let is = c.requires.job in
    let setting = setting_view o.task.version o.task.contracts.now in
    let r = c.args.ran in
    let ran = results_of r.receipts.items r.touched.items in
    let whole = c.requires.whole in
    let serial = subst (λ order. Serial setting o.task.calls.now order o.cells.now.cells ran r.cells.cells) (take_all (length r.receipts.items) o.order.now (omega (arith, whole))) c.requires.ran.serial in
    let run = run_of world o.task.calls.now block setting o.order.now o.cells.now.cells ran r.cells.cells is.setting (is.order ∙ is.trial.trial.order) is.cells serial in
    first_of_all t _ c.requires.fit (c.in_ok-verdict.ensures t.calls.now t.fuel (subst (λ (calls : List Call). RunOf world calls block ran r.cells.cells) is.calls run))

pub returns-clause-again : goal.returns-clause-again
returns-clause-again g c =
    let is = c.requires.job in
    let many = as_many_numbers c.args.job.now.trial.now.block.now c.args.job.now.ordered.order.now (is.order ∙ is.trial.trial.order) in
    let whole = c.requires.whole in
    let again = c.count_again-again.ensures in
    omega (arith, many, whole, again)

pub conclude-requires-clause-few : goal.conclude-requires-clause-few
conclude-requires-clause-few g c κs within =
    let is = c.requires.job in
    let many = as_many_numbers c.args.job.now.trial.now.block.now c.args.job.now.ordered.order.now (is.order ∙ is.trial.trial.order) in
    let few = is.known.few in
    omega (arith, many, few)

pub conclude-requires-clause-receipts : goal.conclude-requires-clause-receipts
conclude-requires-clause-receipts g c κs within =
    let is = c.requires.job in
    c.requires.whole ∙ sym (as_many_numbers c.args.job.now.trial.now.block.now c.args.job.now.ordered.order.now (is.order ∙ is.trial.trial.order))

pub conclude-requires-clause-touched : goal.conclude-requires-clause-touched
conclude-requires-clause-touched g c κs within =
    let is = c.requires.job in
    c.requires.ran.touched ∙ (c.requires.whole ∙ sym (as_many_numbers c.args.job.now.trial.now.block.now c.args.job.now.ordered.order.now (is.order ∙ is.trial.trial.order)))
