use Rattle.std.proofs.Common.{◌≡◌, ◌-◌, ◌^◌, min, take}
use Rattle.spec_ledger.specs.Order.{limits_of}
use Rattle.spec_block.specs.Worlds.{limits}
use Rattle.wblock_debug.proofs.PrefixSums.{numbers}
use Rattle.wblock_debug.proofs.fuel.limits_in.Given as goal

abbrev pub invariant-loop-position : goal.invariant-loop-position
invariant-loop-position g l = l.fuel ≡ min (limits_of (limits l.calls) (take l.position-index (numbers l.positions))) (2 ^ 64 - 1)
