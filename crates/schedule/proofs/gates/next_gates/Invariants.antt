use Rattle.std.proofs.Common.{◌↔◌, ℕ, take}
use Rattle.std.specs.List.{Contains}
use Rattle.std.specs.BTreeMap.{get}
use Rattle.lock_profile.specs.LockTurns.{turn_cmp}
use Rattle.schedule.specs.Turns.{IsHeld}
use Rattle.schedule.proofs.gates.next_gates.Given as goal

abbrev pub invariant-loop-entry : goal.invariant-loop-entry
invariant-loop-entry g l = (gate : ℕ) → Contains l.list.items gate ↔ IsHeld (get turn_cmp l.numbers) (take l.entry-index l.entries) gate
