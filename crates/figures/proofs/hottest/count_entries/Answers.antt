use Rattle.std.proofs.Common.{Some}
use Rattle.std.specs.BTreeMap.{get}
use Rattle.spec_ledger.specs.declared.Kind.TheVariants.{Map}
use Rattle.spec_ledger.specs.declared.Mode.TheVariants.{Read}
use Rattle.spec_ledger.specs.declared.Entry.{Entry}
use Rattle.spec_ledger.specs.declared.Lock.{Lock}
use Rattle.spec_ledger.specs.Cells.{lock_cmp}
use Rattle.std.specs.Ordering.{eq_by_cmp}
use Rattle.figures.proofs.Counts.{entry_counted}
use Rattle.figures.proofs.hottest.count_entries.Goals as goal
use Rattle.std.proofs.Common.{◌≡◌, ℕ, ◌+◌, cond, get_or, subst}

pub loop-entry-preserved : goal.loop-entry-preserved
loop-entry-preserved c =
    let none : Entry = record { lock = record { contract = 0; kind = Map; key = 0 }; mode = Read; turn = 0 } in
    let e : Entry = get_or c.args.entries.now c.loop-entry.entry-index none in
    let Put : ℕ → Type 0 = λ n. (lock : Lock) → get lock_cmp c.insert.new.self lock ≡ cond (eq_by_cmp lock_cmp e.lock lock) (Some (n + 1)) (get lock_cmp c.loop-entry.counts lock) in
    entry_counted c.args.entries.now c.loop-entry.entry-index none (get lock_cmp c.args.counts.now) (get lock_cmp c.loop-entry.counts) (get lock_cmp c.insert.new.self) c.loop-entry-test.true c.loop-entry.invariant
    (subst Put c.number_of-count.ensures c.in_ok-insert.ensures.updates.0)
