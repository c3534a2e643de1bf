use Rattle.std.proofs.Common.{◌≤◌, length}
use Rattle.wblock_words.proofs.extensions.spot_in.Given as goal

abbrev pub invariant-loop-section : goal.invariant-loop-section
invariant-loop-section l = length l.rest ≤ length l.sections

abbrev pub decreases-loop-section : goal.decreases-loop-section
decreases-loop-section l = length l.rest
