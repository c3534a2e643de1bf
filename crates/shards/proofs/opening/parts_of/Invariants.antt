use Rattle.std.proofs.Common.{◌≡◌, ◌+◌, vec_len}
use Rattle.shards.proofs.opening.parts_of.Given as goal

abbrev pub invariant-loop-done : goal.invariant-loop-done
invariant-loop-done g l = (l.count ≡ vec_len l.fn.shards) × (vec_len l.parts ≡ l._done) × (vec_len l.parts + vec_len l.shards ≡ vec_len l.fn.shards)
