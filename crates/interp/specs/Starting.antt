-- Whether a call starts.
use Rattle.std.specs.Prelude.{◌≡◌, ◌≢◌, ℕ, [], Option, Some, slice_get, option_and_then, unwrap_or}
use Rattle.spec_modules.specs.Syntax.{nothing}
use Rattle.spec_ledger.specs.declared.Outcome.TheVariants.{OutOfFuel, Rejected}
use Rattle.spec_execution.specs.Configuration.{Setting, Contract}
use Rattle.spec_execution.specs.Run.{ContractCall, Opening, Opens, Refused, opening}
use Rattle.spec_execution.specs.Places.{body_of}
use Rattle.instance.specs.Views.{wrong_of}
use Rattle.interp.specs.declared.start.StartRefusal.{StartRefusal}
use Rattle.interp.specs.declared.start.StartRefusal.TheVariants.{NoContract, NoExport, NotFunction, ArgCount, ArgType, NoMemory}
use Rattle.interp.specs.FinishedCalls.{Played}

-- the call opens with a function
abbrev pub IsOpened : Opening → Type 0
IsOpened (Opens c func) = Unit {0}
IsOpened (Refused code) = ⊥

-- the call is refused for this cause; or it opens, and memory was refused
abbrev pub IsRefusedFor : StartRefusal → Opening → Type 0
IsRefusedFor NoExport o = o ≡ Refused 1
IsRefusedFor NotFunction o = o ≡ Refused 2
IsRefusedFor ArgCount o = o ≡ Refused 3
IsRefusedFor (ArgType i) o = o ≡ Refused 4
IsRefusedFor NoContract o = o ≡ Refused 6
IsRefusedFor NoMemory o = IsOpened o

-- the least argument that is not of its parameter's type, in a call over these contracts
abbrev pub wrong_in : Setting → ContractCall → Option ℕ
wrong_in setting call = option_and_then (wrong_of call) (slice_get setting.contracts call.contract)

-- a refusal for an argument's type has this argument's place
abbrev pub HasPlace : Option ℕ → StartRefusal → Type 0
HasPlace wrong (ArgType place) = wrong ≡ Some place
HasPlace wrong _ = Unit {0}

-- the empty run of a call that is refused
pub record IsRejection (setting : Setting) (call : ContractCall) (f : Played) : Type 0 where
  pub lent : f.setting ≡ setting
  pub call_is : f.call ≡ call
  pub trace : f.trace ≡ []
  pub used : f.used ≡ 0
  pub code : ℕ
  pub outcome : f.outcome ≡ Rejected code
  pub refused : opening setting call ≡ Refused code

-- ---- calls without fuel

-- the number of the function that runs first in a call of this one: the start function's, or else its own
abbrev pub first_to_run : Contract → ℕ → ℕ
first_to_run c func = unwrap_or c.deployed.tree.start func

-- The call opens, and the function that runs first has an instruction.
abbrev pub HasCode : Opening → Type 0
HasCode (Opens c func) = body_of c (first_to_run c func) ≢ nothing
HasCode (Refused code) = ⊥

-- The call has no fuel for its first instruction.
pub record LacksFuel (setting : Setting) (call : ContractCall) : Type 0 where
  pub code : HasCode (opening setting call)
  pub no_fuel : call.fuel ≡ 0

-- the empty run of such a call
pub record IsWithoutFuel (setting : Setting) (call : ContractCall) (f : Played) : Type 0 where
  pub lent : f.setting ≡ setting
  pub call_is : f.call ≡ call
  pub trace : f.trace ≡ []
  pub used : f.used ≡ 0
  pub outcome : f.outcome ≡ OutOfFuel
  pub lacks : LacksFuel setting call
