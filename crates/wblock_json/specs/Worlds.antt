-- A world as JSON.
use Rattle.std.specs.Prelude.{ℕ, Bool, List, [], ◌∷◌, codes, filter, length, map}
use Rattle.std.specs.FinMap.{entries}
use Rattle.sha2.specs.Sha256.{sha256}
use Rattle.serde_json.specs.Data.{Data, string}
use Rattle.spec_ledger.specs.declared.Kind.{Kind}
use Rattle.spec_ledger.specs.declared.Kind.TheVariants.{Map, Counter}
use Rattle.spec_ledger.specs.declared.Lock.{Lock}
use Rattle.spec_ledger.specs.Cells.{Cells}
use Rattle.spec_modules.specs.Shortest.{shortest}
use Rattle.spec_block.specs.Worlds.{Contract, World}
use Rattle.spec_block.specs.Bytes.{world_bytes}
use Rattle.world.specs.Views.{is_cell_of}
use Rattle.wblock_calls.specs.Numbers.{number_text}
use Rattle.wblock_json.specs.Json.{IsJson, array_of, hex_data, numbered, object_of, small}
use Rattle.wblock_json.specs.Modules.{module_members}

-- a contract by its number, with what is told of its module; the bytes are those of the module's shortest spelling, which carries no names of functions
unfoldable pub contract_data : ℕ → Contract → Data
contract_data n c = object_of ((codes "number", small n) ∷ module_members (length (shortest c.tree)) [] c.tree)

-- a key or a number of a cell: the string of its decimal digits, signed or not
abbrev pub cell_number : (signed : Bool) → ℕ → Data
cell_number signed n = string (number_text signed n)

unfoldable pub cell_data : (signed : Bool) → Lock × ℕ → Data
cell_data signed cell =
    object_of
    ((codes "contract", small cell.0.contract)
    ∷ (codes "key", cell_number signed cell.0.key)
    ∷ (codes "value", cell_number signed cell.1)
    ∷ [])

-- the cells of a kind, rising by contract and key
abbrev pub cells_of : (signed : Bool) → Kind → List (Lock × ℕ) → Data
cells_of signed kind cells = array_of (map (cell_data signed) (filter (is_cell_of kind) cells))

unfoldable pub cells_data : (signed : Bool) → Cells → Data
cells_data signed cells =
    object_of
    ((codes "maps", cells_of signed Map (entries cells))
    ∷ (codes "counters", cells_of signed Counter (entries cells))
    ∷ [])

unfoldable pub world_data : (signed : Bool) → World → Data
world_data signed w =
    object_of
    ((codes "kind", string (codes "world"))
    ∷ (codes "digest", hex_data (sha256 (world_bytes w)))
    ∷ (codes "contracts", array_of (numbered contract_data 0 w.contracts))
    ∷ (codes "cells", cells_data signed w.cells)
    ∷ [])

-- the text of a world
abbrev pub IsWorldJson : (signed : Bool) → World → List ℕ → Type 0
IsWorldJson signed w text = IsJson (world_data signed w) text
