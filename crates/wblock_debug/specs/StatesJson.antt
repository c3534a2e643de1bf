-- What commands tell of a call as JSON, an object for each command.
use Rattle.std.specs.Prelude.{ℕ, Bool, true, Option, Some, None, List, [], ◌∷◌, codes, map}
use Rattle.std.specs.FinMap.{entries}
use Rattle.serde_json.specs.Data.{Data, boolean, null}
use Rattle.wtypes.specs.declared.Value.{Value}
use Rattle.spec_ledger.specs.declared.Outcome.{Outcome}
use Rattle.spec_ledger.specs.declared.Receipt.{Receipt}
use Rattle.spec_ledger.specs.Modes.{touched}
use Rattle.interp_state.specs.declared.frames.OpenFrame.{OpenFrame}
use Rattle.debugger.specs.SessionView.{SessionView, ending_at, place_at, contract_at, level_at, asks_at, cells_at, frames_at}
use Rattle.wblock_json.specs.Json.{array_of, hex_data, large, maybe, object_of, small}
use Rattle.wblock_json.specs.Blocks.{receipt_members, value_data}
use Rattle.wblock_call.specs.EffectsJson.{change_items}

-- the function and the instruction to come, of this contract at this level
unfoldable pub place_data : (contract level : ℕ) → ℕ × ℕ → Data
place_data contract level place =
    object_of
    ((codes "contract", small contract)
    ∷ (codes "level", small level)
    ∷ (codes "function", small place.0)
    ∷ (codes "instruction", small place.1)
    ∷ [])

-- where a call stands that has not ended
abbrev pub at_data : SessionView → Option Outcome → Option (ℕ × ℕ) → Data
at_data s (Some o) place = null
at_data s None (Some place) = place_data (contract_at s) (level_at s) place
at_data s None None = null

unfoldable pub receipt_data : Receipt → Data
receipt_data r = object_of (receipt_members r)

-- how a call has ended
abbrev pub done_data : SessionView → Option Outcome → Data
done_data s None = null
done_data s (Some o) = receipt_data (record { outcome = o; used = s.turns; asks = asks_at s })

unfoldable pub state_data : SessionView → Data
state_data s =
    object_of
    ((codes "turns", large s.turns)
    ∷ (codes "at", at_data s (ending_at s) (place_at s))
    ∷ (codes "done", done_data s (ending_at s))
    ∷ [])

-- values under a name
unfoldable pub values_data : (name : List ℕ) → List Value → Data
values_data name values = object_of ((name, array_of (map value_data values)) ∷ [])

-- the cells that stand otherwise than at the start, in the order of locks, keys and numbers signed or not
unfoldable pub cells_data : (signed : Bool) → SessionView → Data
cells_data signed s = object_of ((codes "cells", array_of (change_items signed s.cells (cells_at s) (entries (touched s.trace)))) ∷ [])

-- a frame that is open, null for the instruction at the end of the body
unfoldable pub frame_data : OpenFrame → Data
frame_data f =
    object_of
    ((codes "contract", small f.contract)
    ∷ (codes "level", small f.level)
    ∷ (codes "function", small f.func)
    ∷ (codes "instruction", maybe small f.ordinal)
    ∷ [])

-- the frames that are open, from the outer level on
unfoldable pub where_data : SessionView → Data
where_data s = object_of ((codes "where", array_of (map frame_data (frames_at s))) ∷ [])

unfoldable pub bytes_data : List ℕ → Data
bytes_data bytes = object_of ((codes "bytes", hex_data bytes) ∷ [])

-- a break was set or cleared
unfoldable pub ok_data : Data
ok_data = object_of ((codes "ok", boolean true) ∷ [])
