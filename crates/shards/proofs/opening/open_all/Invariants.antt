use Rattle.std.proofs.Common.{◌≡◌, vec_len}
use Rattle.shards.proofs.opening.open_all.Given as goal

abbrev pub invariant-loop-shard : goal.invariant-loop-shard
invariant-loop-shard g l = vec_len l.all ≡ l.shard
