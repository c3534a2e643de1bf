-- What is shown of a module or a world has no float, and few arrays and objects within one another.
use Rattle.std.proofs.Common.{ℕ, Bool, Option, List, [], ◌∷◌, codes, filter, length, map, slice_get, arith}
use Rattle.std.specs.FinMap.{entries}
use Rattle.std.specs.List.{AllByRecursion}
use Rattle.sha2.specs.Sha256.{sha256}
use Rattle.wtypes.specs.declared.ValType.{ValType}
use Rattle.spec_modules.specs.Syntax.{Name, FuncType, Limits, GlobalType, ImportDesc, ImportFunc, ImportTable, ImportMemory, ImportGlobal, ExportDesc, ExportFunc, ExportTable, ExportMemory, ExportGlobal, Import, Export, Func, Global, Module}
use Rattle.spec_modules.specs.Shape.{size}
use Rattle.spec_typing.specs.Modules.{type_at, func_type_indices, tables, memories, globals, imported_globals}
use Rattle.spec_ledger.specs.declared.Kind.{Kind}
use Rattle.spec_ledger.specs.declared.Kind.TheVariants.{Map, Counter}
use Rattle.spec_ledger.specs.declared.Lock.{Lock}
use Rattle.spec_ledger.specs.Cells.{Cells}
use Rattle.spec_modules.specs.Shortest.{shortest}
use Rattle.spec_block.specs.Worlds.{Contract, World}
use Rattle.spec_block.specs.Bytes.{world_bytes}
use Rattle.module_tree.specs.Readers.{imported_funcs}
use Rattle.world.specs.Views.{is_cell_of}
use Rattle.serde_json.specs.Data.{Data, boolean, string}
use Rattle.wblock_words.specs.Names.{Named, name_among}
use Rattle.wblock_json.specs.Json.{IsFlat, array_of, hex_data, maybe, numbered, small}
use Rattle.wblock_json.specs.Modules.{export_data, export_index, export_type, export_word, func_data, func_type_data, global_data, global_type_data, import_data, import_type, import_word, limits_data, module_data, module_members, named_func_data, type_data}
use Rattle.wblock_json.specs.Worlds.{cell_data, cell_number, cells_data, cells_of, contract_data, world_data}
use Rattle.wblock_json.proofs.Flat.{array_flat, boolean_flat, deeper, map_flat, maybe_flat, numbered_flat, object_flat, small_flat, string_flat}

-- ---- modules

types_flat : (types : List ValType) → IsFlat 1 (array_of (map type_data types))
types_flat types = array_flat 0 1 _ (omega arith) (map_flat 0 type_data types (λ t. string_flat 0 _))

func_type_flat : (t : FuncType) → IsFlat 2 (func_type_data t)
unfolding func_type_data
func_type_flat t =
    let members : List (List ℕ × Data) = (codes "params", array_of (map type_data t.params)) ∷ (codes "results", array_of (map type_data t.results)) ∷ [] in
    object_flat 1 2 members (omega arith) (types_flat t.params, (types_flat t.results, tt))

limits_flat : (l : Limits) → IsFlat 2 (limits_data l)
unfolding limits_data
limits_flat l =
    let members : List (List ℕ × Data) = (codes "min", small l.min) ∷ (codes "max", maybe small l.max) ∷ [] in
    object_flat 1 2 members (omega arith) (small_flat 1 _, (maybe_flat 1 small l.max (small_flat 1), tt))

global_type_flat : (g : GlobalType) → IsFlat 2 (global_type_data g)
unfolding global_type_data
global_type_flat g =
    let members : List (List ℕ × Data) = (codes "value", type_data g.type) ∷ (codes "mutable", boolean g.is_mutable) ∷ [] in
    object_flat 1 2 members (omega arith) (string_flat 1 _, (boolean_flat 1 _, tt))

import_type_flat : (types : List FuncType) (d : ImportDesc) → IsFlat 2 (import_type types d)
import_type_flat types (ImportFunc index) = func_type_flat _
import_type_flat types (ImportTable l) = limits_flat l
import_type_flat types (ImportMemory l) = limits_flat l
import_type_flat types (ImportGlobal g) = global_type_flat g

import_flat : (types : List FuncType) (i : Import) → IsFlat 3 (import_data types i)
unfolding import_data
import_flat types i =
    let members : List (List ℕ × Data) = (codes "module", string i.from_module) ∷ (codes "name", string i.name) ∷ (codes "kind", string (import_word i.desc)) ∷ (codes "type", import_type types i.desc) ∷ [] in
    object_flat 2 3 members (omega arith) (string_flat 2 _, (string_flat 2 _, (string_flat 2 _, (import_type_flat types i.desc, tt))))

export_type_flat : (m : Module) (d : ExportDesc) → IsFlat 2 (export_type m d)
export_type_flat m (ExportFunc x) = maybe_flat 2 (λ index. func_type_data (type_at m.types index)) (slice_get (func_type_indices m) x) (λ index. func_type_flat _)
export_type_flat m (ExportTable x) = maybe_flat 2 limits_data (slice_get (tables m) x) limits_flat
export_type_flat m (ExportMemory x) = maybe_flat 2 limits_data (slice_get (memories m) x) limits_flat
export_type_flat m (ExportGlobal x) = maybe_flat 2 global_type_data (slice_get (globals m) x) global_type_flat

export_flat : (m : Module) (e : Export) → IsFlat 3 (export_data m e)
unfolding export_data
export_flat m e =
    let members : List (List ℕ × Data) = (codes "name", string e.name) ∷ (codes "kind", string (export_word e.desc)) ∷ (codes "index", small (export_index e.desc)) ∷ (codes "type", export_type m e.desc) ∷ [] in
    object_flat 2 3 members (omega arith) (string_flat 2 _, (string_flat 2 _, (small_flat 2 _, (export_type_flat m e.desc, tt))))

func_flat : (types : List FuncType) (called : Option Name) (n : ℕ) (f : Func) → IsFlat 3 (func_data types called n f)
unfolding func_data
func_flat types called n f =
    let members : List (List ℕ × Data) = (codes "index", small n) ∷ (codes "type", func_type_data (type_at types f.type_index)) ∷ (codes "locals", small (length f.locals)) ∷ (codes "instructions", small (size f.body)) ∷ (codes "name", maybe string called) ∷ [] in
    object_flat 2 3 members (omega arith) (small_flat 2 _, (func_type_flat _, (small_flat 2 _, (small_flat 2 _, (maybe_flat 2 string called (λ n. string_flat 2 _), tt)))))

global_flat : (n : ℕ) (g : Global) → IsFlat 3 (global_data n g)
unfolding global_data
global_flat n g =
    let members : List (List ℕ × Data) = (codes "index", small n) ∷ (codes "type", global_type_data g.type) ∷ [] in
    object_flat 2 3 members (omega arith) (small_flat 2 _, (global_type_flat g.type, tt))

members_flat : (bytes : ℕ) (names : List Named) (m : Module) → AllByRecursion (λ f. IsFlat 4 f.1) (module_members bytes names m)
unfolding module_members
members_flat bytes names m = (
  small_flat 4 _,
  (
    array_flat 3 4 _ (omega arith) (map_flat 3 (import_data m.types) m.imports (import_flat m.types)),
    (
      array_flat 3 4 _ (omega arith) (map_flat 3 (export_data m) m.exports (export_flat m)),
      (
        array_flat 3 4 _ (omega arith) (numbered_flat 3 (named_func_data m.types names) (imported_funcs m.imports) m.funcs (λ n f. func_flat m.types (name_among names n) n f)),
        (
          array_flat 2 4 _ (omega arith) (map_flat 2 limits_data m.tables limits_flat),
          (
            array_flat 2 4 _ (omega arith) (map_flat 2 limits_data m.memories limits_flat),
            (
              array_flat 3 4 _ (omega arith) (numbered_flat 3 global_data (length (imported_globals m)) m.globals global_flat),
              (
                maybe_flat 4 small m.start (small_flat 4),
                (
                  small_flat 4 _,
                  (
                    small_flat 4 _,
                    tt,
                  ),
                ),
              ),
            ),
          ),
        ),
      ),
    ),
  ),
)

pub module_flat : (bytes : ℕ) (names : List Named) (m : Module) → IsFlat 127 (module_data bytes names m)
unfolding module_data
module_flat bytes names m =
    let members : List (List ℕ × Data) = (codes "kind", string (codes "module")) ∷ module_members bytes names m in
    object_flat 4 127 members (omega arith) (string_flat 4 _, members_flat bytes names m)

-- ---- worlds

contract_flat : (n : ℕ) (c : Contract) → IsFlat 5 (contract_data n c)
unfolding contract_data
contract_flat n c =
    let members : List (List ℕ × Data) = (codes "number", small n) ∷ module_members (length (shortest c.tree)) [] c.tree in
    object_flat 4 5 members (omega arith) (small_flat 4 _, members_flat (length (shortest c.tree)) [] c.tree)

cell_flat : (signed : Bool) (c : Lock × ℕ) → IsFlat 1 (cell_data signed c)
unfolding cell_data
cell_flat signed c =
    let members : List (List ℕ × Data) = (codes "contract", small c.0.contract) ∷ (codes "key", cell_number signed c.0.key) ∷ (codes "value", cell_number signed c.1) ∷ [] in
    object_flat 0 1 members (omega arith) (small_flat 0 _, (string_flat 0 _, (string_flat 0 _, tt)))

kind_flat : (signed : Bool) (kind : Kind) (cells : List (Lock × ℕ)) → IsFlat 2 (cells_of signed kind cells)
kind_flat signed kind cells = array_flat 1 2 _ (omega arith) (map_flat 1 (cell_data signed) (filter (is_cell_of kind) cells) (cell_flat signed))

cells_flat : (signed : Bool) (cells : Cells) → IsFlat 3 (cells_data signed cells)
unfolding cells_data
cells_flat signed cells =
    let members : List (List ℕ × Data) = (codes "maps", cells_of signed Map (entries cells)) ∷ (codes "counters", cells_of signed Counter (entries cells)) ∷ [] in
    object_flat 2 3 members (omega arith) (kind_flat signed Map (entries cells), (kind_flat signed Counter (entries cells), tt))

pub world_flat : (signed : Bool) (w : World) → IsFlat 127 (world_data signed w)
unfolding world_data
world_flat signed w =
    let members : List (List ℕ × Data) = (codes "kind", string (codes "world")) ∷ (codes "digest", hex_data (sha256 (world_bytes w))) ∷ (codes "contracts", array_of (numbered contract_data 0 w.contracts)) ∷ (codes "cells", cells_data signed w.cells) ∷ [] in
    object_flat 6 127 members (omega arith)
    (string_flat 6 _, (string_flat 6 _, (array_flat 5 6 _ (omega arith) (numbered_flat 5 contract_data 0 w.contracts contract_flat), (deeper 3 6 _ (omega arith) (cells_flat signed w.cells), tt))))
