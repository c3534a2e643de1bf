-- The lines of a world.
use Rattle.std.specs.Prelude.{ℕ, Bool, List, [], ◌∷◌, ◌++◌, codes, decimal, length, filter}
use Rattle.std.specs.List.{flat_map}
use Rattle.std.specs.FinMap.{entries}
use Rattle.hex.specs.Hex.{encode_lower}
use Rattle.sha2.specs.Sha256.{sha256}
use Rattle.spec_ledger.specs.declared.Kind.{Kind}
use Rattle.spec_ledger.specs.declared.Kind.TheVariants.{Map, Counter}
use Rattle.spec_ledger.specs.declared.Lock.{Lock}
use Rattle.spec_ledger.specs.Cells.{Cells}
use Rattle.spec_modules.specs.Shortest.{shortest}
use Rattle.spec_block.specs.Worlds.{Contract, World}
use Rattle.spec_block.specs.Bytes.{world_bytes}
use Rattle.figures.specs.Words.{kind_word}
use Rattle.world.specs.Views.{is_cell_of}
use Rattle.wblock_calls.specs.Numbers.{number_text}
use Rattle.wblock_contents.specs.Lines.{numbered}
use Rattle.wblock_contents.specs.ModuleText.{interface_text}

-- `contract K N bytes`, of the module's shortest spelling, and then its imports and exports
abbrev pub contract_text : ℕ → Contract → List ℕ
contract_text n c = (codes "contract " ++ decimal n ++ codes " " ++ decimal (length (shortest c.tree)) ++ codes " bytes\n") ++ interface_text c.tree

-- `map K:KEY VALUE` or `counter K:KEY VALUE`
abbrev pub cell_line : (signed : Bool) → Lock × ℕ → List ℕ
cell_line signed c = kind_word c.0.kind ++ codes " " ++ decimal c.0.contract ++ codes ":" ++ number_text signed c.0.key ++ codes " " ++ number_text signed c.1 ++ 10 ∷ []

-- the cells of a kind, rising by contract and key
abbrev pub cells_text : (signed : Bool) → Kind → Cells → List ℕ
cells_text signed kind cells = flat_map (cell_line signed) (filter (is_cell_of kind) (entries cells))

-- `world CONTRACTS contracts CELLS cells`
abbrev pub counts_line : ℕ → ℕ → List ℕ
counts_line contracts cells = codes "world " ++ (decimal contracts ++ (codes " contracts " ++ (decimal cells ++ codes " cells\n")))

-- `digest HEX`
abbrev pub digest_line : List ℕ → List ℕ
digest_line bytes = codes "digest " ++ encode_lower (sha256 bytes) ++ 10 ∷ []

-- cells in the order of the world's bytes: the maps and then the counters
abbrev pub world_text : (signed : Bool) → World → List ℕ
world_text signed w =
    counts_line (length w.contracts) (length (entries w.cells))
    ++ (digest_line (world_bytes w)
    ++ (numbered contract_text 0 w.contracts
    ++ (cells_text signed Map w.cells
    ++ cells_text signed Counter w.cells)))
