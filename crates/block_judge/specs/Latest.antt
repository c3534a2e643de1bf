-- The last group of each lock, as the entries of a block's profiles are looked at one after another.
use Rattle.std.specs.Prelude.{Option, Some, if◌then◌else◌, List, [], ◌∷◌}
use Rattle.std.specs.Ordering.{eq_by_cmp}
use Rattle.spec_ledger.specs.declared.Lock.{Lock}
use Rattle.spec_ledger.specs.Cells.{lock_cmp}
use Rattle.spec_ledger.specs.declared.Entry.{Entry}
use Rattle.lock_profile.specs.declared.Held.{Held}
use Rattle.lock_profile.specs.declared.Group.{Group}
use Rattle.lock_profile.specs.Groups.{turn_next}

abbrev pub entry_of : (Lock → Option Group) → Held → Entry
entry_of last h = record { lock = h.lock; mode = h.mode; turn = turn_next (last h.lock) h.mode }

-- what a lock has after these entries were written
abbrev pub latest : Lock → List Entry → Option Group → Option Group
latest q [] old = old
latest q (e ∷ es) old = latest q es (if eq_by_cmp lock_cmp e.lock q then Some (record { mode = e.mode; turn = e.turn }) else old)
