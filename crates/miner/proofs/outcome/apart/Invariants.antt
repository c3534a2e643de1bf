use Rattle.std.proofs.Common.{All, IfSome, length}
use Rattle.spec_ledger.specs.declared.Version.TheVariants.{Two}
use Rattle.interp.specs.Callee.{setting_view}
use Rattle.publish.specs.Adoption.{AreMade}
use Rattle.book_workers.specs.CommittedRuns.{IsCommitted}
use Rattle.miner.proofs.outcome.apart.Given as goal

abbrev pub invariant-loop-place : goal.invariant-loop-place
invariant-loop-place g l = record {
  left : All (λ place. IfSome place (IsCommitted (setting_view Two l.contracts) l.calls)) l.places.items;
  made : AreMade (setting_view Two l.contracts) l.calls l.runs.items l.touched.items;
}

abbrev pub decreases-loop-place : goal.decreases-loop-place
decreases-loop-place g l = length l.places.items
