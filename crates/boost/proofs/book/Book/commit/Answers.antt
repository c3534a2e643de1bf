use Rattle.std.proofs.Common.{◌≡◌, true, false, refl}
use Rattle.boost.proofs.Events.{found_not_stale}
use Rattle.boost.proofs.Numbered.{trace_not_stale, other_trace}
use Rattle.boost.proofs.Room.{refused}
use Rattle.boost.proofs.book.Book.commit.Goals as goal

pub returns-in_default-clause-differs : goal.returns-in_default-clause-differs
returns-in_default-clause-differs g c = (
  λ e. cc,
  λ h. absurd (found_not_stale c.args.self.now c.args.ticket.call c.args.ticket.number h.before h.attempt h.later h.found c.in_default.ensures.stale),
)

pub returns-then-not-same_trace-clause-stale : goal.returns-then-not-same_trace-clause-stale
returns-then-not-same_trace-clause-stale g c = (
  λ e. cc,
  λ h. absurd (trace_not_stale c.args.self.now c.args.ticket.call c.args.ticket.number c.in-Some.trace.now c.in-Some.ensures.found h),
)

pub returns-then-not-same_trace-clause-differs : goal.returns-then-not-same_trace-clause-differs
returns-then-not-same_trace-clause-differs g c = (
  λ _. other_trace c.args.self.now c.args.ticket.call c.args.ticket.number c.in-Some.trace.now c.args.run.now.trace.now c.in-Some.ensures.found
      (λ e. let no : false ≡ true = c.if-not-same_trace.ensures.1 e in cc),
  λ _. refl,
)

pub unreachable-requires : goal.unreachable-requires
unreachable-requires g c =
    trace_not_stale c.args.self.now c.args.ticket.call c.args.ticket.number c.in-Some.trace.now c.in-Some.ensures.found
    (refused c.end.result c.args.ticket _ c.in-Err.is c.end.ensures.ticket c.end.ensures.stale)
