use Rattle.std.proofs.Common.{ap}
use Rattle.sharding.proofs.Tickets.{stale_not_entered}
use Rattle.sharding.proofs.shard.Shard.leave.Goals as goal

pub returns-in_default-clause-not_entered : goal.returns-in_default-clause-not_entered
returns-in_default-clause-not_entered g c = (
  λ e. cc,
  λ h. absurd (stale_not_entered c.self.inside.book c.args.self.now.book (ap (λ s. s.book) c.self.view_is) c.args.call c.args.number c.in_default.ensures.none h),
)
