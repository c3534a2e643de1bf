-- What `mine` and `validate` tell as JSON.
use Rattle.std.specs.Prelude.{ℕ, Some, List, [], ◌∷◌, codes, map}
use Rattle.sha2.specs.Sha256.{sha256}
use Rattle.serde_json.specs.Data.{Data, null, string}
use Rattle.spec_block.specs.Worlds.{Block, Call, World}
use Rattle.spec_block.specs.Bytes.{world_bytes}
use Rattle.wblock_json.specs.Json.{IsJson, IsLineOf, array_of, hex_data, object_of, small}
use Rattle.wblock_json.specs.Blocks.{IsBlockData}

-- the value of the block, and the calls that it leaves out
unfoldable pub mined_data : (block : Data) (left : List ℕ) → Data
mined_data block left = object_of ((codes "block", block) ∷ (codes "left", array_of (map small left)) ∷ [])

-- the line of a block of these calls that leaves these out
pub record IsMinedLine (b : Block) (calls : List Call) (left text : List ℕ) : Type 0 where
  pub block : Data
  pub is_block : IsBlockData b (Some calls) block
  pub line : IsLineOf (IsJson (mined_data block left)) text

-- of a block that is accepted the digest of the world after it; the members are those of every verdict
unfoldable pub accept_data : World → Data
accept_data next =
    object_of
    ((codes "verdict", string (codes "accept"))
    ∷ (codes "reason", null)
    ∷ (codes "place", null)
    ∷ (codes "sentence", null)
    ∷ (codes "after", hex_data (sha256 (world_bytes next)))
    ∷ [])
