use Rattle.std.proofs.Common.{length}
use Rattle.link.proofs.starts.+laid.Given as goal

abbrev pub decreases-laid : goal.decreases-laid
decreases-laid g l = length l.segments.now
