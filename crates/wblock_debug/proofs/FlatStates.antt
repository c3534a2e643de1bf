-- What commands tell has no float, and few arrays and objects within one another.
use Rattle.std.proofs.Common.{ℕ, Bool, true, Option, Some, None, List, [], ◌∷◌, codes, map, arith}
use Rattle.std.specs.FinMap.{entries}
use Rattle.serde_json.specs.Data.{Data, boolean}
use Rattle.wtypes.specs.declared.Value.{Value}
use Rattle.spec_ledger.specs.declared.Outcome.{Outcome}
use Rattle.spec_ledger.specs.declared.Receipt.{Receipt}
use Rattle.spec_ledger.specs.Modes.{touched}
use Rattle.interp_state.specs.declared.frames.OpenFrame.{OpenFrame}
use Rattle.debugger.specs.SessionView.{SessionView, ending_at, place_at, contract_at, level_at, asks_at, cells_at, frames_at}
use Rattle.wblock_json.specs.Json.{IsFlat, array_of, hex_data, large, maybe, small}
use Rattle.wblock_json.specs.Blocks.{receipt_members, value_data}
use Rattle.wblock_json.proofs.Flat.{array_flat, boolean_flat, deeper, map_flat, maybe_flat, null_flat, object_flat, small_flat, string_flat}
use Rattle.wblock_json.proofs.FlatBlocks.{receipt_flat, value_flat}
use Rattle.wblock_call.specs.EffectsJson.{change_items}
use Rattle.wblock_debug.specs.StatesJson.{at_data, bytes_data, cells_data, done_data, frame_data, ok_data, place_data, receipt_data, state_data, values_data, where_data}
use Rattle.wblock_call.proofs.FlatEffects.{changes_flat}

place_flat : (contract level : ℕ) (place : ℕ × ℕ) → IsFlat 1 (place_data contract level place)
unfolding place_data
place_flat contract level place =
    let members : List (List ℕ × Data) = (codes "contract", small contract) ∷ (codes "level", small level) ∷ (codes "function", small place.0) ∷ (codes "instruction", small place.1) ∷ [] in
    object_flat 0 1 members (omega arith) (small_flat 0 _, (small_flat 0 _, (small_flat 0 _, (small_flat 0 _, tt))))

at_flat : (s : SessionView) (ending : Option Outcome) (place : Option (ℕ × ℕ)) → IsFlat 2 (at_data s ending place)
at_flat s (Some o) place = null_flat 2
at_flat s None (Some place) = deeper 1 2 _ (omega arith) (place_flat (contract_at s) (level_at s) place)
at_flat s None None = null_flat 2

ended_flat : (r : Receipt) → IsFlat 2 (receipt_data r)
unfolding receipt_data
ended_flat r = object_flat 1 2 (receipt_members r) (omega arith) (receipt_flat 1 (omega arith) r)

done_flat : (s : SessionView) (ending : Option Outcome) → IsFlat 2 (done_data s ending)
done_flat s None = null_flat 2
done_flat s (Some o) = ended_flat (record { outcome = o; used = s.turns; asks = asks_at s })

pub state_flat : (s : SessionView) → IsFlat 127 (state_data s)
unfolding state_data
state_flat s =
    let members : List (List ℕ × Data) = (codes "turns", large s.turns) ∷ (codes "at", at_data s (ending_at s) (place_at s)) ∷ (codes "done", done_data s (ending_at s)) ∷ [] in
    object_flat 2 127 members (omega arith) (string_flat 2 _, (at_flat s (ending_at s) (place_at s), (done_flat s (ending_at s), tt)))

pub values_flat : (name : List ℕ) (values : List Value) → IsFlat 127 (values_data name values)
unfolding values_data
values_flat name values =
    let members : List (List ℕ × Data) = (name, array_of (map value_data values)) ∷ [] in
    object_flat 2 127 members (omega arith) (array_flat 1 2 _ (omega arith) (map_flat 1 value_data values value_flat), tt)

pub cells_flat : (signed : Bool) (s : SessionView) → IsFlat 127 (cells_data signed s)
unfolding cells_data
cells_flat signed s =
    let items : List Data = change_items signed s.cells (cells_at s) (entries (touched s.trace)) in
    let members : List (List ℕ × Data) = (codes "cells", array_of items) ∷ [] in
    object_flat 2 127 members (omega arith) (array_flat 1 2 _ (omega arith) (changes_flat signed s.cells (cells_at s) (entries (touched s.trace))), tt)

frame_flat : (f : OpenFrame) → IsFlat 1 (frame_data f)
unfolding frame_data
frame_flat f =
    let members : List (List ℕ × Data) = (codes "contract", small f.contract) ∷ (codes "level", small f.level) ∷ (codes "function", small f.func) ∷ (codes "instruction", maybe small f.ordinal) ∷ [] in
    object_flat 0 1 members (omega arith) (small_flat 0 _, (small_flat 0 _, (small_flat 0 _, (maybe_flat 0 small f.ordinal (λ n. small_flat 0 n), tt))))

pub where_flat : (s : SessionView) → IsFlat 127 (where_data s)
unfolding where_data
where_flat s =
    let members : List (List ℕ × Data) = (codes "where", array_of (map frame_data (frames_at s))) ∷ [] in
    object_flat 2 127 members (omega arith) (array_flat 1 2 _ (omega arith) (map_flat 1 frame_data (frames_at s) frame_flat), tt)

pub bytes_flat : (bytes : List ℕ) → IsFlat 127 (bytes_data bytes)
unfolding bytes_data
bytes_flat bytes =
    let members : List (List ℕ × Data) = (codes "bytes", hex_data bytes) ∷ [] in
    object_flat 0 127 members (omega arith) (string_flat 0 _, tt)

pub ok_flat : IsFlat 127 ok_data
unfolding ok_data
ok_flat =
    let members : List (List ℕ × Data) = (codes "ok", boolean true) ∷ [] in
    object_flat 0 127 members (omega arith) (boolean_flat 0 true, tt)
