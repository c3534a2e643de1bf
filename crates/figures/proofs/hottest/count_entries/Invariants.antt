use Rattle.std.proofs.Common.{◌≡◌, ◌+◌, drop}
use Rattle.std.specs.BTreeMap.{get}
use Rattle.spec_ledger.specs.declared.Lock.{Lock}
use Rattle.spec_ledger.specs.Cells.{lock_cmp}
use Rattle.lock_profile.specs.Turns.{IsProfile}
use Rattle.figures.specs.Counting.{held_by, number_at}
use Rattle.figures.proofs.hottest.count_entries.Given as goal

abbrev pub invariant-loop-entry : goal.invariant-loop-entry
invariant-loop-entry l =
    IsProfile (drop l.entry-index l.entries)
    × ((lock : Lock) → number_at (get lock_cmp l.counts) lock + held_by lock (drop l.entry-index l.entries) ≡ number_at (get lock_cmp l.initial.counts) lock + held_by lock l.entries)
