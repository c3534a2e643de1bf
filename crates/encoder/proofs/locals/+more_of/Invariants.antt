use Rattle.std.proofs.Common.{length}
use Rattle.encoder.proofs.locals.+more_of.Given as goal

abbrev pub decreases-more_of : goal.decreases-more_of
decreases-more_of l = length l.rest.now
