use Rattle.std.proofs.Common.{◌↔◌}
use Rattle.std.specs.List.{Contains}
use Rattle.figures.specs.declared.hottest.SharedLock.{SharedLock}
use Rattle.spec_block.specs.Worlds.{profiles_in}
use Rattle.figures.proofs.Hot.{IsToldBelow}
use Rattle.figures.proofs.hottest.shared_of.Given as goal

abbrev pub invariant-loop-position : goal.invariant-loop-position
invariant-loop-position l = (s : SharedLock) → Contains l.shared.items s ↔ IsToldBelow (profiles_in l.positions) l.position-index s
