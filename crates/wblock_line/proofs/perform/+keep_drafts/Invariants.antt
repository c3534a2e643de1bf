use Rattle.std.proofs.Common.{length}
use Rattle.wblock_line.proofs.perform.+keep_drafts.Given as goal

abbrev pub decreases-keep_drafts : goal.decreases-keep_drafts
decreases-keep_drafts g l = length l.writes.now
