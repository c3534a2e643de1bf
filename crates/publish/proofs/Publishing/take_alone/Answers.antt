use Rattle.std.proofs.Common.{rules, arith, ◌<◌, length, refl, sym, ap, subst}
use Rattle.std.proofs.lemmas.Option.{slice_get_read}
use Rattle.spec_ledger.specs.declared.Version.TheVariants.{Two}
use Rattle.interp.specs.Callee.{setting_view}
use Rattle.serial.specs.Positions.{results_of}
use Rattle.publish.specs.Publication.{Publication, MayFollow, HasTaken}
use Rattle.publish.proofs.Keeping.{WalkState, with_parts, fits, fits_used, is_more, kept_after, taken_after}
use Rattle.publish.proofs.Publishing.take_alone.Goals as goal

pub bounds-calls-call : goal.bounds-calls-call
bounds-calls-call g c =
    let s = c.self.inside in
    let p : Publication = record { setting = setting_view Two s.contracts.now; calls = s.calls.now; opening = s.opening.now.cells; fuel = s.fuel; order = s.so_far.order.items; ran = results_of s.so_far.receipts.items s.so_far.touched.items; cells = s.cells.cells } in
    let b : WalkState = record { order = s.so_far.order.items; receipts = s.so_far.receipts.items; touched = s.so_far.touched.items; marks = s.so_far.marks.items; remaining = s.so_far.remaining; used = s.so_far.used; counts = s.cells.unsettled } in
    let follows : MayFollow (with_parts p p.cells b) c.args.call = subst (λ q. MayFollow q c.args.call) (sym c.self.view_is) (c.may_follow.ensures.0 (search rules)) in
    follows.known

pub push-requires-clause-known : goal.push-requires-clause-known
push-requires-clause-known g c =
    let s = c.self.inside in
    let p : Publication = record { setting = setting_view Two s.contracts.now; calls = s.calls.now; opening = s.opening.now.cells; fuel = s.fuel; order = s.so_far.order.items; ran = results_of s.so_far.receipts.items s.so_far.touched.items; cells = s.cells.cells } in
    let b : WalkState = record { order = s.so_far.order.items; receipts = s.so_far.receipts.items; touched = s.so_far.touched.items; marks = s.so_far.marks.items; remaining = s.so_far.remaining; used = s.so_far.used; counts = s.cells.unsettled } in
    let follows : MayFollow (with_parts p p.cells b) c.args.call = subst (λ q. MayFollow q c.args.call) (sym c.self.view_is) (c.may_follow.ensures.0 (search rules)) in
    let known = follows.known in let size = c.self.invariant.size in let same = ap length c.reserve.ensures.marks in omega arith

pub push-requires-clause-fits : goal.push-requires-clause-fits
push-requires-clause-fits g c =
    let s = c.self.inside in
    let p : Publication = record { setting = setting_view Two s.contracts.now; calls = s.calls.now; opening = s.opening.now.cells; fuel = s.fuel; order = s.so_far.order.items; ran = results_of s.so_far.receipts.items s.so_far.touched.items; cells = s.cells.cells } in
    let b : WalkState = record { order = s.so_far.order.items; receipts = s.so_far.receipts.items; touched = s.so_far.touched.items; marks = s.so_far.marks.items; remaining = s.so_far.remaining; used = s.so_far.used; counts = s.cells.unsettled } in
    let follows : MayFollow (with_parts p p.cells b) c.args.call = subst (λ q. MayFollow q c.args.call) (sym c.self.view_is) (c.may_follow.ensures.0 (search rules)) in
    let below : c.args.call < length s.calls.now = follows.known in
    let at = slice_get_read s.calls.now (length s.calls.now) c.args.call c.index-calls-call.result refl below c.index-calls-call.is in
    let f = fits p b c.args.call c.fuel.result c.index-calls-call.result c.execute.new.cells.cells c.in_ok-executed.executed.receipt c.in_ok-executed.executed.touched c.self.invariant at c.fuel.ensures follows c.in_ok-executed.ensures.executed in
    let same = c.reserve.ensures.remaining in omega arith

pub push-requires-clause-used : goal.push-requires-clause-used
push-requires-clause-used g c =
    let s = c.self.inside in
    let p : Publication = record { setting = setting_view Two s.contracts.now; calls = s.calls.now; opening = s.opening.now.cells; fuel = s.fuel; order = s.so_far.order.items; ran = results_of s.so_far.receipts.items s.so_far.touched.items; cells = s.cells.cells } in
    let b : WalkState = record { order = s.so_far.order.items; receipts = s.so_far.receipts.items; touched = s.so_far.touched.items; marks = s.so_far.marks.items; remaining = s.so_far.remaining; used = s.so_far.used; counts = s.cells.unsettled } in
    let follows : MayFollow (with_parts p p.cells b) c.args.call = subst (λ q. MayFollow q c.args.call) (sym c.self.view_is) (c.may_follow.ensures.0 (search rules)) in
    let below : c.args.call < length s.calls.now = follows.known in
    let at = slice_get_read s.calls.now (length s.calls.now) c.args.call c.index-calls-call.result refl below c.index-calls-call.is in
    let f = fits_used p b c.args.call c.fuel.result c.index-calls-call.result c.execute.new.cells.cells c.in_ok-executed.executed.receipt c.in_ok-executed.executed.touched c.self.invariant at c.fuel.ensures follows c.in_ok-executed.ensures.executed (omega arith) in
    let same = c.reserve.ensures.used in omega arith

pub invariant_of-self-2 : goal.invariant_of-self-2
invariant_of-self-2 g c =
    let s = c.self.inside in
    let p : Publication = record { setting = setting_view Two s.contracts.now; calls = s.calls.now; opening = s.opening.now.cells; fuel = s.fuel; order = s.so_far.order.items; ran = results_of s.so_far.receipts.items s.so_far.touched.items; cells = s.cells.cells } in
    let b : WalkState = record { order = s.so_far.order.items; receipts = s.so_far.receipts.items; touched = s.so_far.touched.items; marks = s.so_far.marks.items; remaining = s.so_far.remaining; used = s.so_far.used; counts = s.cells.unsettled } in
    let follows : MayFollow (with_parts p p.cells b) c.args.call = subst (λ q. MayFollow q c.args.call) (sym c.self.view_is) (c.may_follow.ensures.0 (search rules)) in
    let below : c.args.call < length s.calls.now = follows.known in
    let at = slice_get_read s.calls.now (length s.calls.now) c.args.call c.index-calls-call.result refl below c.index-calls-call.is in
    let room = c.reserve.new.self in
    let made = c.reserve.ensures in
    let last = c.push.new.self in
    let put = c.push.ensures in
    let roomy : WalkState = record { order = room.order.items; receipts = room.receipts.items; touched = room.touched.items; marks = room.marks.items; remaining = room.remaining; used = room.used; counts = s.cells.unsettled } in
    let after : WalkState = record { order = last.order.items; receipts = last.receipts.items; touched = last.touched.items; marks = last.marks.items; remaining = last.remaining; used = last.used; counts = c.execute.new.cells.unsettled } in
    let is = is_more p b c.args.call c.fuel.result c.index-calls-call.result c.execute.new.cells.cells c.in_ok-executed.executed.receipt c.in_ok-executed.executed.touched c.self.invariant at c.fuel.ensures follows c.in_ok-executed.ensures.executed roomy after made.order made.receipts made.touched made.marks made.remaining made.used
    put.order put.receipts put.touched put.marks put.remaining put.used c.in_ok-executed.ensures.settled in
    kept_after p b c.args.call c.fuel.result c.index-calls-call.result c.execute.new.cells.cells c.in_ok-executed.executed.receipt c.in_ok-executed.executed.touched c.self.invariant at c.fuel.ensures follows c.in_ok-executed.ensures.executed after is

pub returns-clause-taken : goal.returns-clause-taken
returns-clause-taken g c = λ _.
    let s = c.self.inside in
    let p : Publication = record { setting = setting_view Two s.contracts.now; calls = s.calls.now; opening = s.opening.now.cells; fuel = s.fuel; order = s.so_far.order.items; ran = results_of s.so_far.receipts.items s.so_far.touched.items; cells = s.cells.cells } in
    let b : WalkState = record { order = s.so_far.order.items; receipts = s.so_far.receipts.items; touched = s.so_far.touched.items; marks = s.so_far.marks.items; remaining = s.so_far.remaining; used = s.so_far.used; counts = s.cells.unsettled } in
    let follows : MayFollow (with_parts p p.cells b) c.args.call = subst (λ q. MayFollow q c.args.call) (sym c.self.view_is) (c.may_follow.ensures.0 (search rules)) in
    let below : c.args.call < length s.calls.now = follows.known in
    let at = slice_get_read s.calls.now (length s.calls.now) c.args.call c.index-calls-call.result refl below c.index-calls-call.is in
    let room = c.reserve.new.self in
    let made = c.reserve.ensures in
    let last = c.push.new.self in
    let put = c.push.ensures in
    let roomy : WalkState = record { order = room.order.items; receipts = room.receipts.items; touched = room.touched.items; marks = room.marks.items; remaining = room.remaining; used = room.used; counts = s.cells.unsettled } in
    let after : WalkState = record { order = last.order.items; receipts = last.receipts.items; touched = last.touched.items; marks = last.marks.items; remaining = last.remaining; used = last.used; counts = c.execute.new.cells.unsettled } in
    let is = is_more p b c.args.call c.fuel.result c.index-calls-call.result c.execute.new.cells.cells c.in_ok-executed.executed.receipt c.in_ok-executed.executed.touched c.self.invariant at c.fuel.ensures follows c.in_ok-executed.ensures.executed roomy after made.order made.receipts made.touched made.marks made.remaining made.used
    put.order put.receipts put.touched put.marks put.remaining put.used c.in_ok-executed.ensures.settled in
    subst (λ q. HasTaken q c.args.call (with_parts p c.execute.new.cells.cells after)) c.self.view_is (taken_after p b c.args.call c.fuel.result c.index-calls-call.result c.execute.new.cells.cells c.in_ok-executed.executed.receipt c.in_ok-executed.executed.touched c.self.invariant at c.fuel.ensures follows c.in_ok-executed.ensures.executed after is)
