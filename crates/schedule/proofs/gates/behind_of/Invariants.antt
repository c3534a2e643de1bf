use Rattle.std.proofs.Common.{◌<◌, ◌↔◌, ℕ}
use Rattle.std.specs.List.{Contains}
use Rattle.std.specs.BTreeMap.{get}
use Rattle.lock_profile.specs.declared.lock_turn.LockTurn.{LockTurn}
use Rattle.lock_profile.specs.LockTurns.{turn_cmp}
use Rattle.schedule.specs.Turns.{behind_turn, AreNumbered, IsHolder}
use Rattle.schedule.proofs.gates.behind_of.Given as goal

abbrev pub invariant-loop-position : goal.invariant-loop-position
invariant-loop-position g l = AreNumbered (get turn_cmp l.numbers) l.behind.items l.position × ((q : LockTurn) (p : ℕ) → Contains (behind_turn (get turn_cmp l.numbers) l.behind.items q) p ↔ ((p < l.position) × IsHolder l.profiles q p))
