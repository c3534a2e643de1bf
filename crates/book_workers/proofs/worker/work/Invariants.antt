use Rattle.spec_ledger.specs.declared.Version.TheVariants.{Two}
use Rattle.interp.specs.Callee.{setting_view}
use Rattle.book_workers.specs.Intakes.{IsSeatOf}
use Rattle.book_workers.specs.CommittedRuns.{AreRuns}
use Rattle.book_workers.proofs.worker.work.Given as goal

abbrev pub invariant-loop : goal.invariant-loop
invariant-loop g l = record {
  seat : IsSeatOf l.job.intake.now l.seat;
  runs : AreRuns (setting_view Two l.job.contracts.now) l.job.calls.now l.worked;
}
