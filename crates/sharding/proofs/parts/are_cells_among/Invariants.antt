use Rattle.std.proofs.Common.{◌≡◌, ◌++◌}
use Rattle.std.specs.List.{AllByRecursion}
use Rattle.spec_ledger.specs.Shards.{shard_of}
use Rattle.sharding.proofs.Gathering.{IsAmong}
use Rattle.sharding.proofs.parts.are_cells_among.Given as goal

-- of what was gone over, each cell at the shard's locks is one of the others
abbrev pub invariant-loop-lock : goal.invariant-loop-lock
invariant-loop-lock g l =
    (goal.iterator-loop-lock g).can_next l.lock-iterator ×
    (goal.iterator-loop-lock g).is_finite l.lock-iterator ×
    (l.yielded ++ l.lock-iterator ≡ l.initial.lock-iterator) ×
    AllByRecursion (IsAmong (shard_of l.shards) l.shard l.others.cells) l.yielded
