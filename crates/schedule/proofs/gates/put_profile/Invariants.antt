use Rattle.std.proofs.Common.{◌≡◌, ◌↔◌, ◌⊎◌, ◌+◌, ℕ, take}
use Rattle.std.specs.List.{Contains}
use Rattle.std.specs.BTreeMap.{get}
use Rattle.lock_profile.specs.declared.lock_turn.LockTurn.{LockTurn}
use Rattle.lock_profile.specs.LockTurns.{turn_cmp}
use Rattle.schedule.specs.Turns.{behind_turn, AreNumbered, IsAt}
use Rattle.schedule.proofs.gates.put_profile.Given as goal

abbrev pub invariant-loop-entry : goal.invariant-loop-entry
invariant-loop-entry g l = AreNumbered (get turn_cmp l.numbers) l.behind.items (l.position + 1) × ((q : LockTurn) (p : ℕ)
    → Contains (behind_turn (get turn_cmp l.numbers) l.behind.items q) p ↔ (Contains (behind_turn (get turn_cmp l.initial.numbers) l.initial.behind.items q) p ⊎ ((p ≡ l.position) × IsAt q (take l.entry-index l.entries))))
