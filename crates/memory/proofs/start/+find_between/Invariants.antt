use Rattle.std.proofs.Common.{◌-◌}
use Rattle.memory.proofs.start.+find_between.Given as goal

abbrev pub decreases-find_between : goal.decreases-find_between
decreases-find_between g l = l.high - l.low
