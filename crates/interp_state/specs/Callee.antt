-- The contract that is called, in the words of the definitions.
use Rattle.module_tree.specs.Modules.{module_view}
use Rattle.spec_execution.specs.Configuration.{Contract, State, fresh}
use Rattle.interp_state.specs.declared.callee.Callee.{Callee}

abbrev pub contract_of : {A : Type 0} → Callee A → Contract
contract_of l = record { number = l.number; deployed = record { tree = module_view l.module.now; hosts = l.hosts.now }; version = l.version }

-- the state of a fresh instance
abbrev pub base_of : {A : Type 0} → Callee A → State
base_of l = fresh (module_view l.module.now)
