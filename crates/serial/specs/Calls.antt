-- Read-write sets of the calls of a list.
use Rattle.std.specs.Prelude.{◌≡◌, ℕ, List, Some, slice_get}
use Rattle.spec_execution.specs.Configuration.{Setting}
use Rattle.spec_execution.specs.Run.{ContractCall}
use Rattle.spec_execution.specs.declared.footprints.Access.{Access}
use Rattle.spec_execution.specs.ReadWriteSets.{IsReadWriteSet}
use Rattle.serial.specs.declared.Executed.{Executed}

-- the accesses are a read-write set of the call of this number over these contracts, and that is what it came to
pub record IsFootprintOf {A : Type 0} (setting : Setting) (calls : List ContractCall) (number : ℕ) (accesses : List Access) (e : Executed A) : Type 0 where
  pub call : ContractCall
  pub at : slice_get calls number ≡ Some call
  pub is : IsReadWriteSet setting call accesses e.receipt e.touched
