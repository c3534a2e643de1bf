use Rattle.std.proofs.Common.{◌∙◌, [], refl, sym, ap, subst}
use Rattle.spec_ledger.specs.Book.{Content}
use Rattle.spec_ledger.specs.Events.{IsConflict, IsFound}
use Rattle.boost.specs.AttemptNumbers.{BegunWith, marked}
use Rattle.boost.proofs.Events.{found_not_stale}
use Rattle.sharding.proofs.first.marked_op.Goals as goal

pub unmark-requires : goal.unmark-requires
unmark-requires g c = (
  c.requires.newest.0,
  c.args.marks.now,
  subst (λ x. BegunWith c.requires.newest.0 x c.args.ticket.now.call c.args.ticket.now.number c.args.marks.now) (sym c.in-Err-op.ensures.err) (c.in-Ok.ensures.ok c.requires.newest.0 c.requires.newest.1),
)

pub returns-in-Ok-op-clause-ok : goal.returns-in-Ok-op-clause-ok
returns-in-Ok-op-clause-ok g c = λ former begun. (c.mark.new.self, c.in-Ok.ensures.ok former begun, c.in-Ok-op.ensures.ok)

pub returns-in-Err-op-clause-conflict : goal.returns-in-Err-op-clause-conflict
returns-in-Err-op-clause-conflict g c = λ _ former begun.
    let made = c.in-Ok.ensures.ok former begun in (
      λ e. (c.mark.new.self, made, c.in-Err-op.ensures.conflict.0 e),
      λ w. c.in-Err-op.ensures.conflict.1 (subst (λ x. IsConflict x c.args.ticket.now.call c.args.ticket.now.number c.args.op) (w.1.new_is ∙ sym made.new_is) w.2),
    )

pub returns-in-Err-op-clause-stale : goal.returns-in-Err-op-clause-stale
returns-in-Err-op-clause-stale g c = λ e.
    let former = c.requires.newest.0 in
    let call = c.args.ticket.now.call in
    let number = c.args.ticket.now.number in
    let made = c.in-Ok.ensures.ok former c.requires.newest.1 in
    let found : IsFound c.mark.new.self call number former.attempts (marked call number c.args.marks.now) [] = record { among = ap (λ (x : Content). x.attempts) made.new_is; call_is = refl; number_is = refl } in
    found_not_stale c.mark.new.self call number former.attempts (marked call number c.args.marks.now) [] found (c.in-Err-op.ensures.stale.0 e)
