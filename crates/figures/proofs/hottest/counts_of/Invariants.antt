use Rattle.std.proofs.Common.{◌≡◌, ◌+◌, ◌≤◌, drop}
use Rattle.std.specs.BTreeMap.{get}
use Rattle.spec_ledger.specs.declared.Lock.{Lock}
use Rattle.spec_ledger.specs.Cells.{lock_cmp}
use Rattle.spec_block.specs.Worlds.{profiles_in}
use Rattle.figures.specs.Counting.{number_at}
use Rattle.figures.specs.Hottest.{holders}
use Rattle.figures.proofs.hottest.counts_of.Given as goal

abbrev pub invariant-loop-position : goal.invariant-loop-position
invariant-loop-position l =
    ((lock : Lock) → number_at (get lock_cmp l.counts) lock ≤ l.position-index)
    × ((lock : Lock) → number_at (get lock_cmp l.counts) lock + holders (profiles_in (drop l.position-index l.positions)) lock ≡ holders (profiles_in l.positions) lock)
