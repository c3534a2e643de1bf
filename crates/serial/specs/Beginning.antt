-- What a call is once it has begun.
use Rattle.std.specs.Prelude.{◌≡◌, ◌⊎◌, []}
use Rattle.spec_execution.specs.Configuration.{Setting}
use Rattle.spec_execution.specs.Run.{ContractCall}
use Rattle.interp.specs.FinishedCalls.{Played}
use Rattle.interp.specs.Progress.{Progress}
use Rattle.interp.specs.Starting.{IsRejection, IsWithoutFuel}
use Rattle.serial.specs.declared.beginning.Begun.{Begun}
use Rattle.serial.specs.declared.beginning.Begun.TheVariants.{Ended, Runs}

abbrev pub IfEnded : {A : Type 0} → (Played → Type 0) → Begun A → Type 0
IfEnded P (Ended f) = P f
IfEnded P (Runs p) = Unit {0}

abbrev pub IfRuns : {A : Type 0} → (Progress → Type 0) → Begun A → Type 0
IfRuns P (Ended f) = Unit {0}
IfRuns P (Runs p) = P p

-- the empty run of a call that does not start, or has no fuel for its first instruction
pub record IsEmptyRun (setting : Setting) (call : ContractCall) (f : Played) : Type 0 where
  pub lent : f.setting ≡ setting
  pub call_is : f.call ≡ call
  pub trace : f.trace ≡ []
  pub cause : IsRejection setting call f ⊎ IsWithoutFuel setting call f
