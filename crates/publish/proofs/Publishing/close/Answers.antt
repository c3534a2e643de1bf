use Rattle.std.proofs.Common.{length, ◌∙◌, ap, subst}
use Rattle.publish.proofs.Marks.{are_left}
use Rattle.spec_ledger.specs.declared.Version.TheVariants.{Two}
use Rattle.interp.specs.Callee.{setting_view}
use Rattle.serial.specs.Positions.{results_of}
use Rattle.publish.specs.Publication.{Publication}
use Rattle.publish.proofs.Keeping.{WalkState, as_many}
use Rattle.publish.specs.Publication.{AreLeft, AreUnmarked}
use Rattle.publish.proofs.Publishing.close.Goals as goal

pub returns-clause-receipts : goal.returns-clause-receipts
returns-clause-receipts g c =
    let s = c.self.inside in
    let p : Publication = record { setting = setting_view Two s.contracts.now; calls = s.calls.now; opening = s.opening.now.cells; fuel = s.fuel; order = s.so_far.order.items; ran = results_of s.so_far.receipts.items s.so_far.touched.items; cells = s.cells.cells } in
    let b : WalkState = record { order = s.so_far.order.items; receipts = s.so_far.receipts.items; touched = s.so_far.touched.items; marks = s.so_far.marks.items; remaining = s.so_far.remaining; used = s.so_far.used; counts = s.cells.unsettled } in
    (as_many p b c.self.invariant).0 ∙ ap (λ (q : Publication). length q.order) c.self.view_is

pub returns-clause-touched : goal.returns-clause-touched
returns-clause-touched g c =
    let s = c.self.inside in
    let p : Publication = record { setting = setting_view Two s.contracts.now; calls = s.calls.now; opening = s.opening.now.cells; fuel = s.fuel; order = s.so_far.order.items; ran = results_of s.so_far.receipts.items s.so_far.touched.items; cells = s.cells.cells } in
    let b : WalkState = record { order = s.so_far.order.items; receipts = s.so_far.receipts.items; touched = s.so_far.touched.items; marks = s.so_far.marks.items; remaining = s.so_far.remaining; used = s.so_far.used; counts = s.cells.unsettled } in
    (as_many p b c.self.invariant).1 ∙ ap (λ (q : Publication). length q.order) c.self.view_is

pub returns-clause-left : goal.returns-clause-left
returns-clause-left g c =
    let s = c.self.inside in
    let u = subst (λ ms. AreUnmarked ms (length ms) c.in_ok-left.left.items) c.deref.ensures.value c.in_ok-left.ensures in
    subst (λ (q : Publication). AreLeft s.so_far.order.items (length q.calls) c.in_ok-left.left.items) c.self.view_is
    (are_left s.so_far.marks.items s.so_far.order.items c.in_ok-left.left.items (length s.calls.now) c.self.invariant.size c.self.invariant.marks_are u)
