use Rattle.std.proofs.Common.{◌≡◌, true, false, ◌∙◌, sym, ap, subst, refl}
use Rattle.spec_ledger.specs.Shards.{part, shard_of}
use Rattle.sharding.proofs.Tickets.{differs_there, same_there, stale_not_other}
use Rattle.sharding.proofs.shard.Shard.look.Goals as goal

pub returns-in_default-clause-differs : goal.returns-in_default-clause-differs
returns-in_default-clause-differs g c = (
  λ e. cc,
  λ h. absurd (stale_not_other c.self.inside.book c.args.self.now.book (ap (λ s. s.book) c.self.view_is) c.args.call c.args.number (part (shard_of c.args.shards) c.args.shard c.args.trace.now) c.in_default.ensures.none h),
)

pub returns-then-not-is_part-clause-differs : goal.returns-then-not-is_part-clause-differs
returns-then-not-is_part-clause-differs g c = (
  λ _. differs_there c.self.inside.book c.args.self.now.book (ap (λ s. s.book) c.self.view_is) c.in-Some.ticket.call c.in-Some.ticket.number c.args.call c.args.number c.in-Some.ensures.found.0 c.in-Some.ensures.found.1
      c.in-Some-trace_of.own.now (part (shard_of c.args.shards) c.args.shard c.args.trace.now) c.in-Some-trace_of.ensures.found (λ e. let no : false ≡ true = c.if-not-is_part.ensures.1 e in cc),
  λ _. refl,
)

pub returns-clause-differs : goal.returns-clause-differs
returns-clause-differs g c = (
  λ e. cc,
  λ h. absurd (same_there c.self.inside.book c.args.self.now.book (ap (λ s. s.book) c.self.view_is) c.in-Some.ticket.call c.in-Some.ticket.number c.args.call c.args.number c.in-Some.ensures.found.0 c.in-Some.ensures.found.1
      c.in-Some-trace_of.own.now (part (shard_of c.args.shards) c.args.shard c.args.trace.now) c.in-Some-trace_of.ensures.found c.use_invariant.ensures.modes.apart (c.if-not-is_part.ensures.0 refl) h),
)
