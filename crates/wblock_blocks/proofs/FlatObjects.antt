-- What is told as JSON of blocks has no float, and few arrays and objects within one another.
use Rattle.std.proofs.Common.{List, ℕ, [], ◌∷◌, codes, map, arith}
use Rattle.sha2.specs.Sha256.{sha256}
use Rattle.serde_json.specs.Data.{Data, null, string}
use Rattle.spec_block.specs.Worlds.{World}
use Rattle.spec_block.specs.Bytes.{world_bytes}
use Rattle.wblock_json.specs.Json.{IsFlat, array_of, hex_data, small}
use Rattle.wblock_json.proofs.Flat.{array_flat, map_flat, null_flat, object_flat, small_flat, string_flat}
use Rattle.wblock_blocks.specs.Objects.{accept_data, mined_data}

pub mined_flat : (block : Data) (left : List ℕ) → IsFlat 6 block → IsFlat 127 (mined_data block left)
unfolding mined_data
mined_flat block left flat =
    let members : List (List ℕ × Data) = (codes "block", block) ∷ (codes "left", array_of (map small left)) ∷ [] in
    object_flat 6 127 members (omega arith) (flat, (array_flat 0 6 _ (omega arith) (map_flat 0 small left (small_flat 0)), tt))

pub accept_flat : (next : World) → IsFlat 127 (accept_data next)
unfolding accept_data
accept_flat next =
    let members : List (List ℕ × Data) = (codes "verdict", string (codes "accept")) ∷ (codes "reason", null) ∷ (codes "place", null) ∷ (codes "sentence", null) ∷ (codes "after", hex_data (sha256 (world_bytes next))) ∷ [] in
    object_flat 0 127 members (omega arith) (string_flat 0 _, (null_flat 0, (null_flat 0, (null_flat 0, (string_flat 0 _, tt)))))
