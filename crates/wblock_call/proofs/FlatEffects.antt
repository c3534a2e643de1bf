-- What is told of a call has no float, and few arrays and objects within one another.
use Rattle.std.proofs.Common.{ℕ, Bool, true, false, Option, List, [], ◌∷◌, ◌++◌, if◌then◌else◌, codes, map, arith}
use Rattle.std.specs.FinMap.{entries, get}
use Rattle.std.specs.List.{AllByRecursion}
use Rattle.serde_json.specs.Data.{Data, string}
use Rattle.spec_ledger.specs.declared.Lock.{Lock}
use Rattle.spec_ledger.specs.declared.Mode.{Mode}
use Rattle.spec_ledger.specs.Cells.{Cells}
use Rattle.spec_execution.specs.Serial.{CallResult}
use Rattle.figures.specs.Words.{kind_word, mode_word}
use Rattle.wblock_json.specs.Json.{IsFlat, array_of, maybe, small}
use Rattle.wblock_json.specs.Blocks.{receipt_members}
use Rattle.wblock_json.specs.Worlds.{cell_number}
use Rattle.wblock_json.proofs.Flat.{array_flat, map_flat, maybe_flat, object_flat, small_flat, string_flat}
use Rattle.wblock_json.proofs.FlatBlocks.{receipt_flat}
use Rattle.wblock_call.specs.Effects.{is_same}
use Rattle.wblock_call.specs.EffectsJson.{change_data, change_items, effects_data, lock_data}

lock_flat : (signed : Bool) (held : Lock × Mode) → IsFlat 1 (lock_data signed held)
unfolding lock_data
lock_flat signed held =
    let members : List (List ℕ × Data) = (codes "kind", string (kind_word held.0.kind)) ∷ (codes "contract", small held.0.contract) ∷ (codes "key", cell_number signed held.0.key) ∷ (codes "mode", string (mode_word held.1)) ∷ [] in
    object_flat 0 1 members (omega arith) (string_flat 0 _, (small_flat 0 _, (string_flat 0 _, (string_flat 0 _, tt))))

cell_flat : (signed : Bool) (cell : Option ℕ) → IsFlat 0 (maybe (cell_number signed) cell)
cell_flat signed cell = maybe_flat 0 (cell_number signed) cell (λ n. string_flat 0 _)

change_flat : (signed : Bool) (lock : Lock) (before later : Option ℕ) → IsFlat 1 (change_data signed lock before later)
unfolding change_data
change_flat signed lock before later =
    let members : List (List ℕ × Data) = (codes "kind", string (kind_word lock.kind)) ∷ (codes "contract", small lock.contract) ∷ (codes "key", cell_number signed lock.key) ∷ (codes "before", maybe (cell_number signed) before) ∷ (codes "after", maybe (cell_number signed) later) ∷ [] in
    object_flat 0 1 members (omega arith) (string_flat 0 _, (small_flat 0 _, (string_flat 0 _, (cell_flat signed before, (cell_flat signed later, tt)))))

-- behind other items
either_behind : (same : Bool) (d : Data) (more : List Data) → IsFlat 1 d → AllByRecursion (IsFlat 1) more → AllByRecursion (IsFlat 1) ((if same then [] else d ∷ []) ++ more)
either_behind true d more h hs = hs
either_behind false d more h hs = (h, hs)

pub changes_flat : (signed : Bool) (before later : Cells) (locks : List (Lock × Mode)) → AllByRecursion (IsFlat 1) (change_items signed before later locks)
changes_flat signed before later [] = tt
changes_flat signed before later (held ∷ more) =
    either_behind (is_same (get before held.0) (get later held.0)) (change_data signed held.0 (get before held.0) (get later held.0)) (change_items signed before later more) (change_flat signed held.0 (get before held.0) (get later held.0)) (changes_flat signed before later more)

pub effects_flat : (signed : Bool) (ran : CallResult) (before later : Cells) → IsFlat 127 (effects_data signed ran before later)
unfolding effects_data
effects_flat signed ran before later =
    let members : List (List ℕ × Data) = (codes "locks", array_of (map (lock_data signed) (entries ran.touched))) ∷ (codes "changes", array_of (change_items signed before later (entries ran.touched))) ∷ receipt_members ran.receipt in
    object_flat 2 127 members (omega arith)
    (array_flat 1 2 _ (omega arith) (map_flat 1 (lock_data signed) (entries ran.touched) (lock_flat signed)), (array_flat 1 2 _ (omega arith) (changes_flat signed before later (entries ran.touched)), receipt_flat 2 (omega arith) ran.receipt))
