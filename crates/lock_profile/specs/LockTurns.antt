-- Turns at locks.
use Rattle.std.specs.Prelude.{◌+◌}
use Rattle.std.specs.Ordering.{nat_cmp, ordering_then}
use Rattle.std.specs.declared.cmp.Ordering.{Ordering}
use Rattle.spec_ledger.specs.declared.Entry.{Entry}
use Rattle.spec_ledger.specs.Cells.{lock_cmp}
use Rattle.lock_profile.specs.declared.lock_turn.LockTurn.{LockTurn}

-- by lock, then by turn
abbrev pub turn_cmp : LockTurn → LockTurn → Ordering
turn_cmp a b = ordering_then (lock_cmp a.lock b.lock) (nat_cmp a.turn b.turn)

abbrev pub turn_of : Entry → LockTurn
turn_of e = record { lock = e.lock; turn = e.turn }

abbrev pub after : LockTurn → LockTurn
after q = record { lock = q.lock; turn = q.turn + 1 }
