use Rattle.std.proofs.Common.{◌≡◌, ◌≤◌, false, length, refl, subst}
use Rattle.std.specs.Prelude.{◌↔◌, IsTrue}
use Rattle.std.proofs.lemmas.Option.{slice_get_read}
use Rattle.spec_ledger.specs.declared.Version.TheVariants.{Two}
use Rattle.interp.specs.Callee.{setting_view}
use Rattle.serial.specs.Positions.{results_of}
use Rattle.publish.specs.Publication.{Publication, MayFollow, is_marked}
use Rattle.publish.proofs.Keeping.{WalkState, may_follow}
use Rattle.publish.proofs.Publishing.may_follow.Goals as goal

pub returns-in-Some : goal.returns-in-Some
returns-in-Some g c =
    let s = c.self.inside in
    let p : Publication = record { setting = setting_view Two s.contracts.now; calls = s.calls.now; opening = s.opening.now.cells; fuel = s.fuel; order = s.so_far.order.items; ran = results_of s.so_far.receipts.items s.so_far.touched.items; cells = s.cells.cells } in
    let b : WalkState = record { order = s.so_far.order.items; receipts = s.so_far.receipts.items; touched = s.so_far.touched.items; marks = s.so_far.marks.items; remaining = s.so_far.remaining; used = s.so_far.used; counts = s.cells.unsettled } in
    let lookup = c.in-Some.ensures.lookup in
    let at = slice_get_read s.calls.now (length s.calls.now) c.args.call c.in-Some.known.now refl lookup.3.0 lookup.1 in
    let says = subst (λ l. IsTrue c.has_room.result ↔ ((is_marked s.so_far.marks.items c.args.call ≡ false) × (l ≤ s.so_far.remaining))) c.fuel.ensures c.has_room.ensures in
    subst (λ q. IsTrue c.has_room.result ↔ MayFollow q c.args.call) c.self.view_is (may_follow p b c.args.call c.in-Some.known.now c.self.invariant at c.has_room.result says)
