-- The digest that a world may keep.
use Rattle.std.specs.Prelude.{◌≡◌, ℕ, List, Option, IfSome, map}
use Rattle.sha2.specs.Sha256.{sha256}
use Rattle.link.specs.declared.deployed.Deployed.{Deployed}
use Rattle.link.specs.Parts.{tree_of, hosts_of}
use Rattle.module_tree.specs.Modules.{module_view}
use Rattle.spec_ledger.specs.Cells.{Cells}
use Rattle.spec_block.specs.Worlds.{Contract, World}
use Rattle.spec_block.specs.Bytes.{world_bytes}

-- a contract without where it lies in memory
abbrev pub contract_in : {A : Type 0} → Deployed A → Contract
contract_in d = record { tree = module_view (tree_of d); hosts = hosts_of d }

-- the world of these contracts and cells
abbrev pub world_in : {A : Type 0} → List (Deployed A) → Cells → World
world_in contracts cells = record { contracts = map contract_in contracts; cells = cells }

-- where a digest is kept, it is that of the world's bytes
abbrev pub IsKeptDigest : {A : Type 0} → Option (List ℕ) → List (Deployed A) → Cells → Type 0
IsKeptDigest digest contracts cells = IfSome digest (λ kept. kept ≡ sha256 (world_bytes (world_in contracts cells)))
