-- Runs of the calls of a list.
use Rattle.std.specs.Prelude.{◌≡◌, ℕ, List, Some, slice_get}
use Rattle.spec_execution.specs.Configuration.{Setting}
use Rattle.spec_execution.specs.Run.{ContractCall}
use Rattle.interp.specs.FinishedCalls.{Played}

-- a run of the call of this number over these contracts
pub record IsRunOf (setting : Setting) (calls : List ContractCall) (number : ℕ) (f : Played) : Type 0 where
  pub lent : f.setting ≡ setting
  pub call_is : slice_get calls number ≡ Some f.call
