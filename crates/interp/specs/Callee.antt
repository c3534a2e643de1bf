-- The contracts that a machine is lent, in the words of the definitions.
use Rattle.std.specs.Prelude.{List, map}
use Rattle.spec_ledger.specs.declared.Version.{Version}
use Rattle.module_tree.specs.Modules.{module_view}
use Rattle.link.specs.declared.deployed.Deployed as in_memory
use Rattle.link.specs.Parts.{tree_of, hosts_of}
use Rattle.spec_execution.specs.Configuration.{Setting, Deployed}

abbrev pub contract_view : {A : Type 0} → in_memory.Deployed A → Deployed
contract_view d = record { tree = module_view (tree_of d); hosts = hosts_of d }

abbrev pub contracts_view : {A : Type 0} → List (in_memory.Deployed A) → List Deployed
contracts_view ds = map contract_view ds

-- what calls run over, with these contracts by the rules of this version
abbrev pub setting_view : {A : Type 0} → Version → List (in_memory.Deployed A) → Setting
setting_view version ds = record { contracts = contracts_view ds; version = version }
