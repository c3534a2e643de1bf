-- What workers hand back.
use Rattle.std.specs.Prelude.{◌≡◌, List, All}
use Rattle.spec_ledger.specs.Modes.{touched}
use Rattle.spec_execution.specs.Configuration.{Setting}
use Rattle.spec_execution.specs.Run.{ContractCall}
use Rattle.serial.specs.Runs.{IsRunOf}
use Rattle.book_workers.specs.declared.attempt.CommittedRun.{CommittedRun}
use Rattle.book_workers.specs.declared.worker.WorkerResult.{WorkerResult}

-- a run of a call, with the locks that it asked for
pub record IsCommitted {A : Type 0} (setting : Setting) (calls : List ContractCall) (c : CommittedRun A) : Type 0 where
  pub run : IsRunOf setting calls c.call c.finished
  pub locks : c.touched ≡ touched c.finished.trace

abbrev pub AreAllRuns : {A : Type 0} → Setting → List ContractCall → List (CommittedRun A) → Type 0
AreAllRuns setting calls cs = All (IsCommitted setting calls) cs

abbrev pub AreRuns : {A : Type 0} → Setting → List ContractCall → WorkerResult A → Type 0
AreRuns setting calls w = AreAllRuns setting calls w.committed.items
