-- What a deployed module stands for, and the numbers of refusals.
use Rattle.std.specs.Prelude.{◌≡◌, ℕ, List, Option, Some, None, map}
use Rattle.wtypes.specs.declared.Value.{Value}
use Rattle.spec_ledger.specs.declared.Version.{Version}
use Rattle.link.specs.declared.deployed.Deployed.{Deployed}
use Rattle.link.specs.Parts.{tree_of, hosts_of}
use Rattle.module_tree.specs.Modules.{module_view}
use Rattle.spec_execution.specs.Configuration as spec
use Rattle.spec_modules.specs.Syntax.{ExportDesc, ExportFunc}
use Rattle.spec_execution.specs.Configuration.{Setting, Contract, Function, Defined, function_at}
use Rattle.spec_execution.specs.Run.{ContractCall, Opening, Opens, Refused, by_function, exported, wrong_argument}
use Rattle.instance.specs.declared.opening.Refusal.{Refusal}
use Rattle.instance.specs.declared.opening.Refusal.TheVariants.{NoExport, NotFunction, ArgCount, ArgType, NoContract}

abbrev pub deployed_view : {A : Type 0} → Deployed A → spec.Deployed
deployed_view d = record { tree = module_view (tree_of d); hosts = hosts_of d }

-- a deployed module as the contract of this number, by the rules of this version
abbrev pub contract_of : {A : Type 0} → Version → ℕ → Deployed A → Contract
contract_of version number d = record { number = number; deployed = deployed_view d; version = version }

-- what calls run over, with these contracts and this version
abbrev pub setting_of : {A : Type 0} → Version → List (Deployed A) → Setting
setting_of version ds = record { contracts = map deployed_view ds; version = version }

abbrev pub code_of : Refusal → ℕ
code_of NoExport = 1
code_of NotFunction = 2
code_of ArgCount = 3
code_of (ArgType i) = 4
code_of NoContract = 6

-- A call of an exported function opens, or is refused with this number.
abbrev pub by_code : Contract → ℕ → Option ℕ → Opening
by_code c func None = Opens c func
by_code c func (Some code) = Refused code

abbrev pub Enters : {A : Type 0} → Deployed A → ℕ → List Value → Option ℕ → Type 0
Enters d func args code = (version : Version) (number : ℕ) → let c : Contract = contract_of version number d in
    by_function c func args (function_at c.deployed func) ≡ by_code c func code

-- the least argument that is not of its parameter's type, in a call of this function
abbrev pub wrong_for : List Value → Option Function → Option ℕ
wrong_for args (Some (Defined t f)) = wrong_argument t.params args
wrong_for args _ = None

abbrev pub wrong_by : spec.Deployed → List Value → Option ExportDesc → Option ℕ
wrong_by d args (Some (ExportFunc func)) = wrong_for args (function_at d func)
wrong_by d args _ = None

-- the least argument that is not of its parameter's type, in a call of this contract
abbrev pub wrong_of : ContractCall → spec.Deployed → Option ℕ
wrong_of call d = wrong_by d call.args (exported call.entry d.tree.exports)

-- a refusal for an argument's type has this argument's place
abbrev pub HasPlace : Option ℕ → Refusal → Type 0
HasPlace wrong (ArgType place) = wrong ≡ Some place
HasPlace wrong _ = Unit {0}
