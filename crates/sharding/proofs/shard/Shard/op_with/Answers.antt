use Rattle.std.proofs.Common.{◌≡◌, ◌<◌, length, get_or, inl, inr, unwrap_or, ◌∙◌, ap, subst, refl, arith}
use Rattle.std.proofs.lemmas.Option.{unwrap_or-slice_get}
use Rattle.spec_ledger.specs.Book.{Attempt}
use Rattle.spec_ledger.specs.Events.{HasNoAttempt, IsStale}
use Rattle.std.specs.declared.result.Result.TheVariants.{Err}
use Rattle.boost.specs.declared.book.BeginAsRefusal.TheVariants.{NoSuchCall, Live, Committed, Passed}
use Rattle.boost.specs.declared.book.OpRefusal.TheVariants.{Stale}
use Rattle.boost.specs.AttemptNumbers.{BegunAs}
use Rattle.sharding.specs.Shard.{Shard}
use Rattle.sharding.proofs.Tickets.{stable, none_stale}
use Rattle.sharding.proofs.Waiting.{begun_here, count_here, first_ok, first_waits, first_err, first_entries, again_ok, again_waits, still_shard, still_room, err_map, passed_never_waits, unknown_never_waits, committed_never_waits, over_stale, over_waits, behind_stale, behind_waits, not_over}
use Rattle.sharding.proofs.shard.Shard.op_with.Goals.{then-number-count, else-number-count}
use Rattle.sharding.proofs.shard.Shard.op_with.Goals as goal

pub first_op-requires-clause-newest : goal.first_op-requires-clause-newest
first_op-requires-clause-newest g c =
    let count : c.unwrap_or-count.result ≡ get_or c.self.inside.book.begun c.args.call 0 = c.unwrap_or-count.ensures ∙ ap (λ o. unwrap_or o 0) c.begun_of.ensures ∙ unwrap_or-slice_get c.self.inside.book.begun c.args.call 0 in (
      c.self.inside.book,
      begun_here c.in-Ok.ticket.call c.in-Ok.ticket.number c.args.call c.args.number c.in-Ok.ensures.ok.0 c.in-Ok.ensures.ok.1 c.self.inside.book c.begin_as.new.self c.in-Ok.ensures.ok.2,
      count_here c.in-Ok.ticket.call c.in-Ok.ticket.number c.args.call c.args.number c.in-Ok.ensures.ok.0 c.in-Ok.ensures.ok.1 c.self.inside.book c.begin_as.new.self c.in-Ok.ensures.ok.2 c.unwrap_or-count.result count,
    )

pub invariant_of-self : goal.invariant_of-self
invariant_of-self g c =
    let count : c.unwrap_or-count.result ≡ get_or c.self.inside.book.begun c.args.call 0 = c.unwrap_or-count.ensures ∙ ap (λ o. unwrap_or o 0) c.begun_of.ensures ∙ unwrap_or-slice_get c.self.inside.book.begun c.args.call 0 in
    let err = first_err c.in-Ok.ticket.call c.in-Ok.ticket.number c.args.call c.args.number c.in-Ok.ensures.ok.0 c.in-Ok.ensures.ok.1 c.self.inside.book c.begin_as.new.self c.in-Ok.ensures.ok.2 c.first_op.new.book c.unwrap_or-count.result count c.first_op.result c.first_op.ensures.err in
    let wide : c.first_op.new.positions.len ≡ c.self.inside.positions.len = omega (arith, c.first_op.new.positions.ok.0, c.self.inside.positions.ok.0, (let e : length c.first_op.new.positions.items ≡ length c.self.inside.positions.items = ap length c.first_op.ensures.positions in e)) in (
      still_shard c.self.inside.book c.first_op.new.book c.self.inside.positions.items c.first_op.new.positions.items c.first_op.ensures.positions
          (first_entries c.in-Ok.ticket.call c.in-Ok.ticket.number c.args.call c.args.number c.in-Ok.ensures.ok.0 c.in-Ok.ensures.ok.1 c.self.inside.book c.begin_as.new.self c.in-Ok.ensures.ok.2 c.args.marks.now c.args.op c.first_op.new.book c.first_op.result c.first_op.ensures.ok err)
          c.self.invariant.0,
      still_room c.first_op.result c.first_op.new.book c.self.inside.book c.self.inside.positions.len c.self.inside.positions.cap c.first_op.new.positions.len c.first_op.new.positions.cap wide c.first_op.ensures.capacity c.self.invariant.1 c.first_op.ensures.room err,
    )

pub returns-in-Ok-clause-ok : goal.returns-in-Ok-clause-ok
returns-in-Ok-clause-ok g c =
    first_ok c.in-Ok.ticket.call c.in-Ok.ticket.number c.args.call c.args.number c.in-Ok.ensures.ok.0 c.in-Ok.ensures.ok.1 c.args.self.now.book c.begin_as.new.self
    (subst (λ (s : Shard). BegunAs s.book c.begin_as.new.self c.args.call c.args.number) c.self.view_is c.in-Ok.ensures.ok.2) c.args.marks.now c.args.op c.first_op.new.book c.first_op.result c.first_op.ensures.ok

pub returns-in-Ok-clause-conflict : goal.returns-in-Ok-clause-conflict
returns-in-Ok-clause-conflict g c = λ ne.
    first_waits c.in-Ok.ticket.call c.in-Ok.ticket.number c.args.call c.args.number c.in-Ok.ensures.ok.0 c.in-Ok.ensures.ok.1 c.args.self.now.book c.begin_as.new.self
    (subst (λ (s : Shard). BegunAs s.book c.begin_as.new.self c.args.call c.args.number) c.self.view_is c.in-Ok.ensures.ok.2) c.args.marks.now c.args.op c.first_op.result (c.first_op.ensures.conflict ne)

pub returns-in-Ok-clause-err : goal.returns-in-Ok-clause-err
returns-in-Ok-clause-err g c =
    let count : c.unwrap_or-count.result ≡ get_or c.self.inside.book.begun c.args.call 0 = c.unwrap_or-count.ensures ∙ ap (λ o. unwrap_or o 0) c.begun_of.ensures ∙ unwrap_or-slice_get c.self.inside.book.begun c.args.call 0 in
    let err = first_err c.in-Ok.ticket.call c.in-Ok.ticket.number c.args.call c.args.number c.in-Ok.ensures.ok.0 c.in-Ok.ensures.ok.1 c.self.inside.book c.begin_as.new.self c.in-Ok.ensures.ok.2 c.first_op.new.book c.unwrap_or-count.result count c.first_op.result c.first_op.ensures.err in
    err_map c.first_op.result (λ (e : c.first_op.new.book ≡ c.self.inside.book). (λ i. record { book = e i; positions = c.first_op.ensures.positions i }) ∙ c.self.view_is) err

pub returns-in-Some-clause-ok : goal.returns-in-Some-clause-ok
returns-in-Some-clause-ok g c =
    again_ok c.begin_as.new.self c.args.self.now.book (c.in-Err-Live.ensures.err ∙ ap (λ (s : Shard). s.book) c.self.view_is) c.in-Some.ticket.call c.in-Some.ticket.number c.args.call c.args.number c.in-Some.ensures.found.0 c.in-Some.ensures.found.1
    c.args.marks.now c.args.op c.op.new.self c.op.result c.op.ensures.ok

pub returns-in-Some-clause-conflict : goal.returns-in-Some-clause-conflict
returns-in-Some-clause-conflict g c = λ _.
    again_waits c.begin_as.new.self c.args.self.now.book (c.in-Err-Live.ensures.err ∙ ap (λ (s : Shard). s.book) c.self.view_is) c.in-Some.ticket.call c.in-Some.ticket.number c.args.call c.args.number c.in-Some.ensures.found.0 c.in-Some.ensures.found.1
    c.args.marks.now c.args.op c.op.result c.in-Some.ensures.lives c.op.ensures.conflict

pub returns-after-number-count-clause-stale : goal.returns-after-number-count-clause-stale
returns-after-number-count-clause-stale g c =
    let count : c.unwrap_or-count.result ≡ get_or c.self.inside.book.begun c.args.call 0 = c.unwrap_or-count.ensures ∙ ap (λ o. unwrap_or o 0) c.begun_of.ensures ∙ unwrap_or-slice_get c.self.inside.book.begun c.args.call 0 in
    let gone : IsStale c.self.inside.book c.args.call c.args.number = subst (λ x. IsStale x c.args.call c.args.number) c.in-Err-Live.ensures.err c.in-None.ensures.none in
    let is : c.begin_as.result ≡ Err Live = cc in
    elim c.if-number-count.branch [
      | then-number-count w ↦ over_stale c.self.inside.book c.args.self.now.book (ap (λ (s : Shard). s.book) c.self.view_is) c.args.call c.args.number c.args.marks.now c.args.op c.if-number-count.result w.result-is (inl (record { gone = gone; seen = inl (let passed : c.args.number < get_or c.self.inside.book.begun c.args.call 0 = omega (arith, w.if-number-count.true, count) in passed) }))
      | else-number-count w ↦ behind_stale c.self.inside.book c.args.self.now.book (ap (λ (s : Shard). s.book) c.self.view_is) c.args.call c.args.number c.args.marks.now c.args.op c.if-number-count.result w.result-is (not_over c.self.inside.book c.args.call c.args.number (omega (arith, w.if-number-count.false, count)) (λ no. let other : c.begin_as.result ≡ Err Committed = c.begin_as.ensures.committed.1 no in let clash : c.begin_as.result ≡ Err Live = is in cc) (λ l. let other : c.begin_as.result ≡ Err NoSuchCall = c.begin_as.ensures.no_such_call.1 l in let clash : c.begin_as.result ≡ Err Live = is in cc))
    ]

pub returns-after-number-count-clause-conflict : goal.returns-after-number-count-clause-conflict
returns-after-number-count-clause-conflict g c =
    let count : c.unwrap_or-count.result ≡ get_or c.self.inside.book.begun c.args.call 0 = c.unwrap_or-count.ensures ∙ ap (λ o. unwrap_or o 0) c.begun_of.ensures ∙ unwrap_or-slice_get c.self.inside.book.begun c.args.call 0 in
    let gone : IsStale c.self.inside.book c.args.call c.args.number = subst (λ x. IsStale x c.args.call c.args.number) c.in-Err-Live.ensures.err c.in-None.ensures.none in
    let is : c.begin_as.result ≡ Err Live = cc in
    elim c.if-number-count.branch [
      | then-number-count w ↦ over_waits c.self.inside.book c.args.self.now.book (ap (λ (s : Shard). s.book) c.self.view_is) c.args.call c.args.number c.args.marks.now c.args.op c.if-number-count.result w.result-is (passed_never_waits c.self.inside.book c.args.call c.args.number c.args.marks.now c.args.op gone (omega (arith, w.if-number-count.true, count)))
      | else-number-count w ↦ behind_waits c.self.inside.book c.args.self.now.book (ap (λ (s : Shard). s.book) c.self.view_is) c.args.call c.args.number c.args.marks.now c.args.op c.if-number-count.result w.result-is (record { live = c.begin_as.ensures.live.0 is; other = gone; later = omega (arith, w.if-number-count.false, count) })
    ]

pub returns-in-Err-NoSuchCall-clause-conflict : goal.returns-in-Err-NoSuchCall-clause-conflict
returns-in-Err-NoSuchCall-clause-conflict g c =
    let is : c.begin_as.result ≡ Err NoSuchCall = cc in
    let none : HasNoAttempt c.args.call c.self.inside.book.attempts = stable (λ (a : Attempt). a.call ≡ c.args.call) c.self.inside.book.attempts (λ no. let other : c.begin_as.result ≡ Err Live = c.begin_as.ensures.live.1 no in let clash : c.begin_as.result ≡ Err NoSuchCall = is in cc) in
    let gone = none_stale c.self.inside.book c.args.call c.args.number none in
    over_waits c.self.inside.book c.args.self.now.book (ap (λ (s : Shard). s.book) c.self.view_is) c.args.call c.args.number c.args.marks.now c.args.op Stale refl (unknown_never_waits c.self.inside.book c.args.call c.args.number c.args.marks.now c.args.op gone none (c.begin_as.ensures.no_such_call.0 is))

pub returns-in-Err-Committed-clause-stale : goal.returns-in-Err-Committed-clause-stale
returns-in-Err-Committed-clause-stale g c =
    let is : c.begin_as.result ≡ Err Committed = cc in
    let none : HasNoAttempt c.args.call c.self.inside.book.attempts = stable (λ (a : Attempt). a.call ≡ c.args.call) c.self.inside.book.attempts (λ no. let other : c.begin_as.result ≡ Err Live = c.begin_as.ensures.live.1 no in let clash : c.begin_as.result ≡ Err Committed = is in cc) in
    let gone = none_stale c.self.inside.book c.args.call c.args.number none in
    over_stale c.self.inside.book c.args.self.now.book (ap (λ (s : Shard). s.book) c.self.view_is) c.args.call c.args.number c.args.marks.now c.args.op Stale refl (inl (record { gone = gone; seen = inr (c.begin_as.ensures.committed.0 is) }))

pub returns-in-Err-Committed-clause-conflict : goal.returns-in-Err-Committed-clause-conflict
returns-in-Err-Committed-clause-conflict g c =
    let is : c.begin_as.result ≡ Err Committed = cc in
    let none : HasNoAttempt c.args.call c.self.inside.book.attempts = stable (λ (a : Attempt). a.call ≡ c.args.call) c.self.inside.book.attempts (λ no. let other : c.begin_as.result ≡ Err Live = c.begin_as.ensures.live.1 no in let clash : c.begin_as.result ≡ Err Committed = is in cc) in
    let gone = none_stale c.self.inside.book c.args.call c.args.number none in
    over_waits c.self.inside.book c.args.self.now.book (ap (λ (s : Shard). s.book) c.self.view_is) c.args.call c.args.number c.args.marks.now c.args.op Stale refl (committed_never_waits c.self.inside.book c.args.call c.args.number c.args.marks.now c.args.op gone none (c.begin_as.ensures.committed.0 is))

pub returns-in-Err-Passed-clause-stale : goal.returns-in-Err-Passed-clause-stale
returns-in-Err-Passed-clause-stale g c =
    let is : c.begin_as.result ≡ Err Passed = cc in
    let h = c.begin_as.ensures.passed.0 is in
    over_stale c.self.inside.book c.args.self.now.book (ap (λ (s : Shard). s.book) c.self.view_is) c.args.call c.args.number c.args.marks.now c.args.op Stale refl (inl (record { gone = none_stale c.self.inside.book c.args.call c.args.number h.not_live; seen = inl h.passed }))

pub returns-in-Err-Passed-clause-conflict : goal.returns-in-Err-Passed-clause-conflict
returns-in-Err-Passed-clause-conflict g c =
    let is : c.begin_as.result ≡ Err Passed = cc in
    let h = c.begin_as.ensures.passed.0 is in
    over_waits c.self.inside.book c.args.self.now.book (ap (λ (s : Shard). s.book) c.self.view_is) c.args.call c.args.number c.args.marks.now c.args.op Stale refl (passed_never_waits c.self.inside.book c.args.call c.args.number c.args.marks.now c.args.op (none_stale c.self.inside.book c.args.call c.args.number h.not_live) h.passed)
