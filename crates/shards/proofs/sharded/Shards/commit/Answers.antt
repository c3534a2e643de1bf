use Rattle.std.proofs.Common.{Err, ap}
use Rattle.shards.proofs.sharded.Shards.commit.Goals as goal

pub returns-in-Err-clause-differs : goal.returns-in-Err-clause-differs
returns-in-Err-clause-differs g c is = c.in-Err.ensures.differs (ap Err is)
