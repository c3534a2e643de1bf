use Rattle.std.proofs.Common.{◌≡◌, ◌∙◌, ℕ, List, sym, ap, subst, arith}
use Rattle.spec_ledger.specs.Order.{IsAdmissible}
use Rattle.serial.specs.OrderOutcomes.{fuel_of_receipts}
use Rattle.publish.specs.Publication.{limits}
use Rattle.miner.proofs.InTurn.{known, serial, used, used_is}
use Rattle.miner.proofs.list_order.mine_in_order.Goals as goal

pub run_with-ran-requires-clause-known : goal.run_with-ran-requires-clause-known
run_with-ran-requires-clause-known g c κs within =
    let job = c.new-job in
    let admissible = subst (λ (o : List ℕ). IsAdmissible (limits c.args.calls.now) o c.args.block_fuel) (sym c.in_ok-order.ensures.order) (c.first_fit_is_admissible.ensures.admissible (limits c.args.calls.now) c.args.block_fuel) in
    known job.result _ c.in_ok-order.field-0.order.items c.args.cells.now.cells job.ensures.task ((λ k. (job.ensures.order k).now) ∙ c.deref.ensures.value) (λ k. (job.ensures.cells k).now.cells) c.args.block_fuel admissible c.requires.calls

pub complete-requires-clause-known : goal.complete-requires-clause-known
complete-requires-clause-known g c κs within =
    let job = c.new-job in
    let admissible = subst (λ (o : List ℕ). IsAdmissible (limits c.args.calls.now) o c.args.block_fuel) (sym c.in_ok-order.ensures.order) (c.first_fit_is_admissible.ensures.admissible (limits c.args.calls.now) c.args.block_fuel) in
    known job.result _ c.in_ok-order.field-0.order.items c.args.cells.now.cells job.ensures.task ((λ k. (job.ensures.order k).now) ∙ c.deref.ensures.value) (λ k. (job.ensures.cells k).now.cells) c.args.block_fuel admissible c.requires.calls

pub fuel_of-fuel-requires : goal.fuel_of-fuel-requires
fuel_of-fuel-requires g c =
    let job = c.new-job in
    let admissible = subst (λ (o : List ℕ). IsAdmissible (limits c.args.calls.now) o c.args.block_fuel) (sym c.in_ok-order.ensures.order) (c.first_fit_is_admissible.ensures.admissible (limits c.args.calls.now) c.args.block_fuel) in
    let within = used job.result _ c.in_ok-order.field-0.order.items c.args.cells.now.cells job.ensures.task ((λ k. (job.ensures.order k).now) ∙ c.deref.ensures.value) (λ k. (job.ensures.cells k).now.cells) c.args.block_fuel admissible
    c.in_ok-receipts.field-0 c.in_ok-receipts.ensures.ran c.in_ok-receipts.ensures.whole in
    omega (arith, within, c.ranges.block_fuel.fits, ap fuel_of_receipts c.deref-2.ensures.value)

pub returns-clause-serial : goal.returns-clause-serial
returns-clause-serial g c =
    let job = c.new-job in
    let admissible = subst (λ (o : List ℕ). IsAdmissible (limits c.args.calls.now) o c.args.block_fuel) (sym c.in_ok-order.ensures.order) (c.first_fit_is_admissible.ensures.admissible (limits c.args.calls.now) c.args.block_fuel) in
    serial job.result _ c.in_ok-order.field-0.order.items c.args.cells.now.cells job.ensures.task ((λ k. (job.ensures.order k).now) ∙ c.deref.ensures.value) (λ k. (job.ensures.cells k).now.cells) c.args.block_fuel admissible
    c.in_ok-receipts.field-0 c.in_ok-receipts.ensures.ran c.in_ok-receipts.ensures.whole

pub returns-clause-admissible : goal.returns-clause-admissible
returns-clause-admissible g c =
    subst (λ (o : List ℕ). IsAdmissible (limits c.args.calls.now) o c.args.block_fuel) (sym c.in_ok-order.ensures.order) (c.first_fit_is_admissible.ensures.admissible (limits c.args.calls.now) c.args.block_fuel)

pub returns-clause-fuel : goal.returns-clause-fuel
returns-clause-fuel g c =
    let job = c.new-job in
    let admissible = subst (λ (o : List ℕ). IsAdmissible (limits c.args.calls.now) o c.args.block_fuel) (sym c.in_ok-order.ensures.order) (c.first_fit_is_admissible.ensures.admissible (limits c.args.calls.now) c.args.block_fuel) in
    c.fuel_of-fuel.ensures ∙ ap fuel_of_receipts c.deref-2.ensures.value
    ∙ used_is job.result _ c.in_ok-order.field-0.order.items c.args.cells.now.cells job.ensures.task ((λ k. (job.ensures.order k).now) ∙ c.deref.ensures.value) (λ k. (job.ensures.cells k).now.cells) c.args.block_fuel admissible
    c.in_ok-receipts.field-0 c.in_ok-receipts.ensures.ran c.in_ok-receipts.ensures.whole
