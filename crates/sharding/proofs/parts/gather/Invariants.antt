use Rattle.std.proofs.Common.{◌≡◌, ◌++◌}
use Rattle.spec_ledger.specs.Shards.{shard_of}
use Rattle.sharding.proofs.Gathering.{AreGathered}
use Rattle.sharding.proofs.parts.gather.Given as goal

-- at the shard's locks the cells gone over are there
abbrev pub invariant-loop-lock : goal.invariant-loop-lock
invariant-loop-lock g l =
    (goal.iterator-loop-lock g).can_next l.lock-iterator ×
    (goal.iterator-loop-lock g).is_finite l.lock-iterator ×
    (l.yielded ++ l.lock-iterator ≡ l.initial.lock-iterator) ×
    AreGathered (shard_of l.shards) l.shard l.fn.all.cells l.yielded l.all.cells ×
    (l.all.unsettled ≡ l.fn.all.unsettled)
