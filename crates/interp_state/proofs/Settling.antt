-- What is settled is ordered.
use Rattle.std.proofs.Common.{[], None}
use Rattle.spec_ledger.specs.declared.Version.TheVariants.{Two}
use Rattle.spec_execution.specs.Configuration.{Contract}
use Rattle.interp_state.specs.declared.parts.Parts.{Parts}
use Rattle.interp_state.specs.Steps.{IsOrderedParts, AllSettle}

-- a contract of no functions
abbrev pub none_at_all : Contract
none_at_all = record { number = 0; deployed = record { tree = record { types = []; imports = []; funcs = []; tables = []; memories = []; globals = []; exports = []; start = None; elements = []; datas = [] }; hosts = [] }; version = Two }

pub settled_ordered : {A : Type 0} (p q : Parts A) → AllSettle p q → IsOrderedParts q
settled_ordered p q s b = (s none_at_all b).ordered
