use Rattle.std.proofs.Common.{◌≡◌, All, IfSome, length}
use Rattle.spec_ledger.specs.declared.Version.TheVariants.{Two}
use Rattle.interp.specs.Callee.{setting_view}
use Rattle.book_workers.specs.CommittedRuns.{AreAllRuns, IsCommitted}
use Rattle.miner.proofs.outcome.placed.Given as goal

abbrev pub invariant-loop-run : goal.invariant-loop-run
invariant-loop-run g l = record {
  left : AreAllRuns (setting_view Two l.contracts) l.calls l.committed.items;
  placed : All (λ place. IfSome place (IsCommitted (setting_view Two l.contracts) l.calls)) l.places.items;
  long : length l.places.items ≡ l.count;
}

abbrev pub decreases-loop-run : goal.decreases-loop-run
decreases-loop-run g l = length l.committed.items
