use Rattle.std.proofs.Common.{◌↔◌, ◌⊎◌, take}
use Rattle.std.specs.BTreeMap.{get}
use Rattle.std.specs.List.{Contains}
use Rattle.spec_ledger.specs.Cells.{lock_cmp}
use Rattle.figures.specs.declared.hottest.SharedLock.{SharedLock}
use Rattle.figures.specs.Counting.{number_at, IsTold}
use Rattle.figures.proofs.hottest.push_shared.Given as goal

abbrev pub invariant-loop-entry : goal.invariant-loop-entry
invariant-loop-entry l = (s : SharedLock) → Contains l.shared.items s ↔ (Contains l.initial.shared.items s ⊎ IsTold (number_at (get lock_cmp l.counts)) (take l.entry-index l.entries) s)
