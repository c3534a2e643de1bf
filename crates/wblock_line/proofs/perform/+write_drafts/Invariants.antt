use Rattle.std.proofs.Common.{length}
use Rattle.wblock_line.proofs.perform.+write_drafts.Given as goal

abbrev pub decreases-write_drafts : goal.decreases-write_drafts
decreases-write_drafts g l = length l.writes.now
