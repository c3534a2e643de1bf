use Rattle.std.proofs.Common.{◌≤◌, length}
use Rattle.sharding.specs.Places.{AreAt}
use Rattle.sharding.proofs.closing.are_parts.Given as goal

-- each shard is at its place
abbrev pub invariant-loop-position : goal.invariant-loop-position
invariant-loop-position g l = record {
  at : AreAt l.journal l.parts l.places l.position;
  within : l.position ≤ length l.journal;
}
