-- Runs that workers hand back.
use Rattle.std.specs.Prelude.{◌≡◌, ℕ, List, Option, Result, Some, IfSome, IfOk, slice_get, All}
use Rattle.interp.specs.Callee.{setting_view}
use Rattle.interp.specs.FinishedCalls.{Played}
use Rattle.serial.specs.Runs.{IsRunOf}
use Rattle.validator.specs.declared.job.Job.{Job}
use Rattle.validator.specs.declared.job.PositionRun.{PositionRun}
use Rattle.validator.specs.declared.job.WorkerRuns.{WorkerRuns}

-- a run of the call of this number, over the job's contracts and by the rules of its block
abbrev pub IsRunIn : {A P : Type 0} → Job A P → ℕ → Played → Type 0
IsRunIn job number f = IsRunOf (setting_view job.ordered.task.version job.ordered.task.contracts.now) job.ordered.task.calls.now number f

-- of the call of this position
pub record IsRunAt {A P : Type 0} (job : Job A P) (position : ℕ) (f : Played) : Type 0 where
  pub of_call : (number : ℕ) → slice_get job.ordered.order.now position ≡ Some number → IsRunIn job number f

abbrev pub IsMade : {A P : Type 0} → Job A P → PositionRun A → Type 0
IsMade job m = IsRunAt job m.position m.finished

abbrev pub AreMade : {A P : Type 0} → Job A P → List (PositionRun A) → Type 0
AreMade job ms = All (IsMade job) ms

-- by position, where there is one
abbrev pub AreFound : {A P : Type 0} → Job A P → List (Option (PositionRun A)) → Type 0
AreFound job os = All (λ o. IfSome o (IsMade job)) os

-- what the workers hand back
abbrev pub ArePartsMade : {A P E : Type 0} → Job A P → List (Result (WorkerRuns A) E) → Type 0
ArePartsMade job parts = All (λ part. IfOk part (λ p. AreMade job p.made.items)) parts
