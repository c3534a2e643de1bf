-- An order that is admissible, of which all calls have run.
use Rattle.std.proofs.Common.{◌≡◌, ℕ, ◌<◌, ◌≤◌, List, length, take, map, get_or, sym, ◌∙◌, ap, subst, arith, take_all}
use Rattle.std.proofs.lemmas.List.{length-map}
use Rattle.std.proofs.lemmas.Option.{slice_get-get_or}
use Rattle.spec_ledger.specs.Cells.{Cells}
use Rattle.spec_ledger.specs.Order.{IsAdmissible}
use Rattle.spec_execution.specs.Run.{ContractCall}
use Rattle.spec_execution.specs.Serial.{Serial}
use Rattle.interp.specs.Callee.{setting_view}
use Rattle.serial.specs.Positions.{results_of}
use Rattle.serial.specs.OrderOutcomes.{fuel_of_receipts}
use Rattle.serial.proofs.BlocksLimits.{used_within, fuel_is}
use Rattle.publish.specs.Publication.{limits, fuel_of_results}
use Rattle.in_order.specs.declared.InOrder.{InOrder}
use Rattle.in_order.specs.declared.OrderProgress.{OrderProgress}
use Rattle.in_order.specs.declared.Task.{Task}
use Rattle.in_order.specs.Progress.{AreKnown, IsKnown, IsRan, IsProgressOf}
use Rattle.miner.proofs.Orders.{few}

module _ {A P : Type 0} (job : InOrder A P) (task : Task A) (order : List ℕ) (cells : Cells) (task_is : job.task ≡ task) (order_is : job.order.now ≡ order) (cells_is : job.cells.now.cells ≡ cells)
    (fuel : ℕ) (admissible : IsAdmissible (limits task.calls.now) order fuel) where
  many : length (limits task.calls.now) ≡ length task.calls.now
  many = length-map task.calls.now (λ (call : ContractCall). call.fuel)

  are_known : length task.calls.now ≤ 65535 → AreKnown task.calls.now order
  are_known short = record {
    known = λ k d lt. let below = admissible.known k (get_or order k d) (slice_get-get_or order k d lt) in omega (arith, below, many);
    few = let at_most = few (limits task.calls.now) order fuel admissible in omega (arith, at_most, many, short);
  }

  pub known : length task.calls.now ≤ 65535 → IsKnown job
  known short = subst (λ (p : Task A × List ℕ). AreKnown p.0.calls.now p.1) (λ k. (sym task_is k, sym order_is k)) (are_known short)

  module _ (r : OrderProgress A) (ran : IsProgressOf job r) (whole : length r.receipts.items ≡ length job.order.now) where
    of_task : IsRan (setting_view task.version task.contracts.now) task.calls.now order cells r
    of_task = subst (λ (p : Task A × (List ℕ × Cells)). IsRan (setting_view p.0.version p.0.contracts.now) p.0.calls.now p.1.0 p.1.1 r) (λ k. (task_is k, (order_is k, cells_is k))) ran

    pub serial : Serial (setting_view task.version task.contracts.now) task.calls.now order cells (results_of r.receipts.items r.touched.items) r.cells.cells
    serial =
        subst (λ (o : List ℕ). Serial (setting_view task.version task.contracts.now) task.calls.now o cells (results_of r.receipts.items r.touched.items) r.cells.cells)
        (take_all (length r.receipts.items) order (omega (arith, whole, ap length order_is))) of_task.serial

    pub used : fuel_of_receipts r.receipts.items ≤ fuel
    used =
        let within = used_within (setting_view task.version task.contracts.now) task.calls.now order cells r.receipts.items r.touched.items r.cells.cells (sym ran.touched) serial in
        let all = admissible.within in
        omega (arith, within, all)

    pub used_is : fuel_of_receipts r.receipts.items ≡ fuel_of_results (results_of r.receipts.items r.touched.items)
    used_is = fuel_is r.receipts.items r.touched.items (sym ran.touched)
