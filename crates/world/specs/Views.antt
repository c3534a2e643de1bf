-- What the parts of a world stand for.
use Rattle.std.specs.Prelude.{ℕ, Bool, map}
use Rattle.link.specs.declared.deployed.Deployed.{Deployed}
use Rattle.link.specs.Parts.{tree_of, hosts_of}
use Rattle.module_tree.specs.Modules.{module_view}
use Rattle.spec_ledger.specs.declared.Kind.{Kind}
use Rattle.spec_ledger.specs.declared.Kind.TheVariants.{Map, Counter}
use Rattle.spec_ledger.specs.declared.Lock.{Lock}
use Rattle.spec_block.specs.Worlds.{Contract, World as TheWorld}
use Rattle.world.specs.declared.value.World.{World}
use Rattle.spec_block.specs.Bytes.{is_map, is_counter}

-- a contract without where it lies in memory
abbrev pub contract_view : {A : Type 0} → Deployed A → Contract
contract_view d = record { tree = module_view (tree_of d); hosts = hosts_of d }

abbrev pub is_of : Kind → Kind → Bool
is_of Map kind = is_map kind
is_of Counter kind = is_counter kind

-- whether a cell is of this kind
abbrev pub is_cell_of : Kind → Lock × ℕ → Bool
is_cell_of kind cell = is_of kind cell.0.kind

-- a world without where it lies in memory, and without what of its cells is unsettled
abbrev pub world_view : {A : Type 0} → World A → TheWorld
world_view w = record { contracts = map contract_view w.contracts.items; cells = w.cells.cells }
