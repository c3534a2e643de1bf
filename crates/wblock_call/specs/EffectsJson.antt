-- What a call alone over cells came to, as JSON.
use Rattle.std.specs.Prelude.{ℕ, Bool, Option, List, [], ◌∷◌, ◌++◌, codes, map, if◌then◌else◌}
use Rattle.std.specs.FinMap.{entries, get}
use Rattle.serde_json.specs.Data.{Data, string}
use Rattle.spec_ledger.specs.declared.Lock.{Lock}
use Rattle.spec_ledger.specs.declared.Mode.{Mode}
use Rattle.spec_ledger.specs.Cells.{Cells}
use Rattle.spec_execution.specs.Serial.{CallResult}
use Rattle.figures.specs.Words.{kind_word, mode_word}
use Rattle.wblock_json.specs.Json.{array_of, maybe, object_of, small}
use Rattle.wblock_json.specs.Blocks.{receipt_members}
use Rattle.wblock_json.specs.Worlds.{cell_number}
use Rattle.wblock_call.specs.Effects.{is_same}

-- with keys and numbers of cells signed or not
unfoldable pub lock_data : (signed : Bool) → Lock × Mode → Data
lock_data signed held =
    object_of
    ((codes "kind", string (kind_word held.0.kind))
    ∷ (codes "contract", small held.0.contract)
    ∷ (codes "key", cell_number signed held.0.key)
    ∷ (codes "mode", string (mode_word held.1))
    ∷ [])

-- the numbers in the cell at a lock, null where the cell is absent
unfoldable pub change_data : (signed : Bool) → Lock → (before later : Option ℕ) → Data
change_data signed lock before later =
    object_of
    ((codes "kind", string (kind_word lock.kind))
    ∷ (codes "contract", small lock.contract)
    ∷ (codes "key", cell_number signed lock.key)
    ∷ (codes "before", maybe (cell_number signed) before)
    ∷ (codes "after", maybe (cell_number signed) later)
    ∷ [])

-- of a cell that is changed, and of another one nothing
abbrev pub change_item : (signed : Bool) → Lock → (before later : Option ℕ) → List Data
change_item signed lock before later = if is_same before later then [] else change_data signed lock before later ∷ []

-- of the cells at these locks
abbrev pub change_items : (signed : Bool) → (before later : Cells) → List (Lock × Mode) → List Data
change_items signed before later [] = []
change_items signed before later (held ∷ more) = change_item signed held.0 (get before held.0) (get later held.0) ++ change_items signed before later more

-- the receipt, the locks that the call asked for, in the order of locks, and the cells at them that it changed
unfoldable pub effects_data : (signed : Bool) → CallResult → (before later : Cells) → Data
effects_data signed ran before later =
    object_of
    ((codes "locks", array_of (map (lock_data signed) (entries ran.touched)))
    ∷ (codes "changes", array_of (change_items signed before later (entries ran.touched)))
    ∷ receipt_members ran.receipt)
