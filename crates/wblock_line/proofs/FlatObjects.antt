-- What is told as JSON has no float, and one object.
use Rattle.std.proofs.Common.{ℕ, List, [], ◌∷◌, codes, arith}
use Rattle.serde_json.specs.Data.{Data, null, string}
use Rattle.spec_block.specs.Verdicts.{Verdict, place}
use Rattle.block_judge.specs.Judging.{place_in}
use Rattle.wblock_json.specs.Json.{IsFlat, maybe, small}
use Rattle.wblock_json.proofs.Flat.{maybe_flat, null_flat, object_flat, small_flat, string_flat}
use Rattle.wblock_line.specs.Rejections.{reject_data}
use Rattle.wblock_line.specs.Forms.{bytes_data}

pub reject_flat : (v : Verdict) (sentence : List ℕ) → IsFlat 127 (reject_data v sentence)
unfolding reject_data
reject_flat v sentence =
    let members : List (List ℕ × Data) = (codes "verdict", string (codes "reject")) ∷ (codes "reason", small (place v)) ∷ (codes "place", maybe small (place_in v)) ∷ (codes "sentence", string sentence) ∷ (codes "after", null) ∷ [] in
    object_flat 0 127 members (omega arith) (string_flat 0 _, (small_flat 0 _, (maybe_flat 0 small (place_in v) (small_flat 0), (string_flat 0 _, (null_flat 0, tt)))))

pub bytes_flat : (count : ℕ) → IsFlat 127 (bytes_data count)
unfolding bytes_data
bytes_flat count =
    let members : List (List ℕ × Data) = (codes "bytes", small count) ∷ [] in
    object_flat 0 127 members (omega arith) (small_flat 0 count, tt)
