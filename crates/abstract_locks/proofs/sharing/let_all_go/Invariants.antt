use Rattle.std.proofs.Common.{List, ◌++◌, ◌∷◌}
use Rattle.std.specs.FinMap.{len}
use Rattle.spec_ledger.specs.Modes.{Modes}
use Rattle.abstract_locks.specs.HeldLocks.{AreShared}
use Rattle.abstract_locks.proofs.sharing.let_all_go.Given as goal

abbrev pub invariant-loop-lock : goal.invariant-loop-lock
invariant-loop-lock g l = (before later : List Modes) → AreShared l.initial.locks (before ++ l.initial.held ∷ later) → AreShared l.locks (before ++ l.held ∷ later)

abbrev pub decreases-loop-lock : goal.decreases-loop-lock
decreases-loop-lock g l = len l.held
