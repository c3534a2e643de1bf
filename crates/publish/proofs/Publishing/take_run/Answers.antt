use Rattle.std.proofs.Common.{rules, arith, ◌≡◌, true, false, length, slice_get, refl, sym, ◌∙◌, ap, subst}
use Rattle.std.proofs.lemmas.Option.{MatchOption-at_some}
use Rattle.std.specs.Option.{IsSome}
use Rattle.spec_ledger.specs.Book.{GetsReplies}
use Rattle.spec_execution.specs.Exec.{Executes}
use Rattle.spec_execution.specs.Run.{ContractCall}
use Rattle.spec_ledger.specs.declared.Version.TheVariants.{Two}
use Rattle.interp.specs.Callee.{setting_view}
use Rattle.serial.specs.Positions.{results_of}
use Rattle.publish.specs.Publication.{Publication, MayFollow, HasTaken}
use Rattle.publish.proofs.Keeping.{WalkState, with_parts, fits, fits_used, is_more, kept_after, taken_after}
use Rattle.publish.proofs.Publishing.take_run.Goals as goal

pub returns-then-not-may_follow-clause-answer : goal.returns-then-not-may_follow-clause-answer
returns-then-not-may_follow-clause-answer g c = (λ t. absurd (let f : false ≡ true = t in cc), λ f. c.if-not-may_follow.ensures.1 f.0)

pub returns-in_default-clause-answer : goal.returns-in_default-clause-answer
returns-in_default-clause-answer g c =
    let cells_is = ap (λ (q : Publication). q.cells) c.self.view_is in (
      λ t. absurd (let f : false ≡ true = t in cc),
      λ f. subst IsSome c.in_default.is (c.in_ok-executed.ensures.replies.1 (subst (GetsReplies c.args.finished.now.trace) (sym cells_is) f.1)),
    )

pub push-requires-clause-known : goal.push-requires-clause-known
push-requires-clause-known g c =
    let s = c.self.inside in
    let p : Publication = record { setting = setting_view Two s.contracts.now; calls = s.calls.now; opening = s.opening.now.cells; fuel = s.fuel; order = s.so_far.order.items; ran = results_of s.so_far.receipts.items s.so_far.touched.items; cells = s.cells.cells } in
    let b : WalkState = record { order = s.so_far.order.items; receipts = s.so_far.receipts.items; touched = s.so_far.touched.items; marks = s.so_far.marks.items; remaining = s.so_far.remaining; used = s.so_far.used; counts = s.cells.unsettled } in
    let follows : MayFollow (with_parts p p.cells b) c.args.call = subst (λ q. MayFollow q c.args.call) (sym c.self.view_is) (c.may_follow.ensures.0 (search rules)) in
    let known = follows.known in let size = c.self.invariant.size in let same = ap length c.reserve.ensures.marks in omega arith

pub push-requires-clause-fits : goal.push-requires-clause-fits
push-requires-clause-fits g c =
    let s = c.self.inside in
    let p : Publication = record { setting = setting_view Two s.contracts.now; calls = s.calls.now; opening = s.opening.now.cells; fuel = s.fuel; order = s.so_far.order.items; ran = results_of s.so_far.receipts.items s.so_far.touched.items; cells = s.cells.cells } in
    let b : WalkState = record { order = s.so_far.order.items; receipts = s.so_far.receipts.items; touched = s.so_far.touched.items; marks = s.so_far.marks.items; remaining = s.so_far.remaining; used = s.so_far.used; counts = s.cells.unsettled } in
    let follows : MayFollow (with_parts p p.cells b) c.args.call = subst (λ q. MayFollow q c.args.call) (sym c.self.view_is) (c.may_follow.ensures.0 (search rules)) in
    let at = ap (λ (q : Publication). slice_get q.calls c.args.call) c.self.view_is ∙ c.requires.call in
    let limit = c.fuel.ensures ∙ ap (λ (k : ContractCall). k.fuel) c.call.ensures in
    let e = c.in-Some.executed in
    let theirs = MatchOption-at_some _ (λ x. Executes c.args.finished.now.setting c.args.finished.now.call s.cells.cells c.replay.new.cells.cells x.receipt x.touched) e c.in-Some.is c.in_ok-executed.ensures.executed in
    let executed = subst (λ ds. Executes ds c.args.finished.now.call s.cells.cells c.replay.new.cells.cells e.receipt e.touched) (c.requires.contracts ∙ sym (ap (λ (q : Publication). q.setting) c.self.view_is)) theirs in
    let f = fits p b c.args.call c.fuel.result c.args.finished.now.call c.replay.new.cells.cells e.receipt e.touched c.self.invariant at limit follows executed in
    let same = c.reserve.ensures.remaining in omega arith

pub push-requires-clause-used : goal.push-requires-clause-used
push-requires-clause-used g c =
    let s = c.self.inside in
    let p : Publication = record { setting = setting_view Two s.contracts.now; calls = s.calls.now; opening = s.opening.now.cells; fuel = s.fuel; order = s.so_far.order.items; ran = results_of s.so_far.receipts.items s.so_far.touched.items; cells = s.cells.cells } in
    let b : WalkState = record { order = s.so_far.order.items; receipts = s.so_far.receipts.items; touched = s.so_far.touched.items; marks = s.so_far.marks.items; remaining = s.so_far.remaining; used = s.so_far.used; counts = s.cells.unsettled } in
    let follows : MayFollow (with_parts p p.cells b) c.args.call = subst (λ q. MayFollow q c.args.call) (sym c.self.view_is) (c.may_follow.ensures.0 (search rules)) in
    let at = ap (λ (q : Publication). slice_get q.calls c.args.call) c.self.view_is ∙ c.requires.call in
    let limit = c.fuel.ensures ∙ ap (λ (k : ContractCall). k.fuel) c.call.ensures in
    let e = c.in-Some.executed in
    let theirs = MatchOption-at_some _ (λ x. Executes c.args.finished.now.setting c.args.finished.now.call s.cells.cells c.replay.new.cells.cells x.receipt x.touched) e c.in-Some.is c.in_ok-executed.ensures.executed in
    let executed = subst (λ ds. Executes ds c.args.finished.now.call s.cells.cells c.replay.new.cells.cells e.receipt e.touched) (c.requires.contracts ∙ sym (ap (λ (q : Publication). q.setting) c.self.view_is)) theirs in
    let f = fits_used p b c.args.call c.fuel.result c.args.finished.now.call c.replay.new.cells.cells e.receipt e.touched c.self.invariant at limit follows executed (omega arith) in
    let same = c.reserve.ensures.used in omega arith

pub invariant_of-self-2 : goal.invariant_of-self-2
invariant_of-self-2 g c =
    let s = c.self.inside in
    let p : Publication = record { setting = setting_view Two s.contracts.now; calls = s.calls.now; opening = s.opening.now.cells; fuel = s.fuel; order = s.so_far.order.items; ran = results_of s.so_far.receipts.items s.so_far.touched.items; cells = s.cells.cells } in
    let b : WalkState = record { order = s.so_far.order.items; receipts = s.so_far.receipts.items; touched = s.so_far.touched.items; marks = s.so_far.marks.items; remaining = s.so_far.remaining; used = s.so_far.used; counts = s.cells.unsettled } in
    let follows : MayFollow (with_parts p p.cells b) c.args.call = subst (λ q. MayFollow q c.args.call) (sym c.self.view_is) (c.may_follow.ensures.0 (search rules)) in
    let at = ap (λ (q : Publication). slice_get q.calls c.args.call) c.self.view_is ∙ c.requires.call in
    let limit = c.fuel.ensures ∙ ap (λ (k : ContractCall). k.fuel) c.call.ensures in
    let e = c.in-Some.executed in
    let theirs = MatchOption-at_some _ (λ x. Executes c.args.finished.now.setting c.args.finished.now.call s.cells.cells c.replay.new.cells.cells x.receipt x.touched) e c.in-Some.is c.in_ok-executed.ensures.executed in
    let executed = subst (λ ds. Executes ds c.args.finished.now.call s.cells.cells c.replay.new.cells.cells e.receipt e.touched) (c.requires.contracts ∙ sym (ap (λ (q : Publication). q.setting) c.self.view_is)) theirs in
    let room = c.reserve.new.self in
    let made = c.reserve.ensures in
    let last = c.push.new.self in
    let put = c.push.ensures in
    let roomy : WalkState = record { order = room.order.items; receipts = room.receipts.items; touched = room.touched.items; marks = room.marks.items; remaining = room.remaining; used = room.used; counts = s.cells.unsettled } in
    let after : WalkState = record { order = last.order.items; receipts = last.receipts.items; touched = last.touched.items; marks = last.marks.items; remaining = last.remaining; used = last.used; counts = c.replay.new.cells.unsettled } in
    let is = is_more p b c.args.call c.fuel.result c.args.finished.now.call c.replay.new.cells.cells e.receipt e.touched c.self.invariant at limit follows executed roomy after made.order made.receipts made.touched made.marks made.remaining made.used
    put.order put.receipts put.touched put.marks put.remaining put.used c.replay.ensures.settled in
    kept_after p b c.args.call c.fuel.result c.args.finished.now.call c.replay.new.cells.cells e.receipt e.touched c.self.invariant at limit follows executed after is

pub returns-clause-answer : goal.returns-clause-answer
returns-clause-answer g c =
    let cells_is = ap (λ (q : Publication). q.cells) c.self.view_is in (
      λ _. (c.may_follow.ensures.0 (search rules), subst (GetsReplies c.args.finished.now.trace) cells_is (c.in_ok-executed.ensures.replies.0 (search rules))),
      λ _. refl,
    )

pub returns-clause-taken : goal.returns-clause-taken
returns-clause-taken g c = λ _.
    let s = c.self.inside in
    let p : Publication = record { setting = setting_view Two s.contracts.now; calls = s.calls.now; opening = s.opening.now.cells; fuel = s.fuel; order = s.so_far.order.items; ran = results_of s.so_far.receipts.items s.so_far.touched.items; cells = s.cells.cells } in
    let b : WalkState = record { order = s.so_far.order.items; receipts = s.so_far.receipts.items; touched = s.so_far.touched.items; marks = s.so_far.marks.items; remaining = s.so_far.remaining; used = s.so_far.used; counts = s.cells.unsettled } in
    let follows : MayFollow (with_parts p p.cells b) c.args.call = subst (λ q. MayFollow q c.args.call) (sym c.self.view_is) (c.may_follow.ensures.0 (search rules)) in
    let at = ap (λ (q : Publication). slice_get q.calls c.args.call) c.self.view_is ∙ c.requires.call in
    let limit = c.fuel.ensures ∙ ap (λ (k : ContractCall). k.fuel) c.call.ensures in
    let e = c.in-Some.executed in
    let theirs = MatchOption-at_some _ (λ x. Executes c.args.finished.now.setting c.args.finished.now.call s.cells.cells c.replay.new.cells.cells x.receipt x.touched) e c.in-Some.is c.in_ok-executed.ensures.executed in
    let executed = subst (λ ds. Executes ds c.args.finished.now.call s.cells.cells c.replay.new.cells.cells e.receipt e.touched) (c.requires.contracts ∙ sym (ap (λ (q : Publication). q.setting) c.self.view_is)) theirs in
    let room = c.reserve.new.self in
    let made = c.reserve.ensures in
    let last = c.push.new.self in
    let put = c.push.ensures in
    let roomy : WalkState = record { order = room.order.items; receipts = room.receipts.items; touched = room.touched.items; marks = room.marks.items; remaining = room.remaining; used = room.used; counts = s.cells.unsettled } in
    let after : WalkState = record { order = last.order.items; receipts = last.receipts.items; touched = last.touched.items; marks = last.marks.items; remaining = last.remaining; used = last.used; counts = c.replay.new.cells.unsettled } in
    let is = is_more p b c.args.call c.fuel.result c.args.finished.now.call c.replay.new.cells.cells e.receipt e.touched c.self.invariant at limit follows executed roomy after made.order made.receipts made.touched made.marks made.remaining made.used
    put.order put.receipts put.touched put.marks put.remaining put.used c.replay.ensures.settled in
    subst (λ q. HasTaken q c.args.call (with_parts p c.replay.new.cells.cells after)) c.self.view_is (taken_after p b c.args.call c.fuel.result c.args.finished.now.call c.replay.new.cells.cells e.receipt e.touched c.self.invariant at limit follows executed after is)
