-- What is told of modules as JSON has no float, and one object.
use Rattle.std.proofs.Common.{ℕ, List, [], ◌∷◌, Option, Some, None, Bor, codes, arith}
use Rattle.serde_json.specs.Data.{Data}
use Rattle.wblock_json.specs.Json.{IsFlat, small}
use Rattle.wblock_json.proofs.Flat.{null_flat, object_flat, small_flat}
use Rattle.wblock_modules.specs.Objects.{deployed_data, onto_data, valid_data}

onto_flat : (onto : Option (Bor (List ℕ))) (before : ℕ) → IsFlat 0 (onto_data onto before)
onto_flat None before = null_flat 0
onto_flat (Some old) before = small_flat 0 before

pub deployed_flat : (count : ℕ) (onto : Option (Bor (List ℕ))) (before : ℕ) → IsFlat 127 (deployed_data count onto before)
unfolding deployed_data
deployed_flat count onto before =
    let members : List (List ℕ × Data) = (codes "contracts", small count) ∷ (codes "onto", onto_data onto before) ∷ [] in
    object_flat 0 127 members (omega arith) (small_flat 0 count, (onto_flat onto before, tt))

pub valid_flat : (count : ℕ) → IsFlat 127 (valid_data count)
unfolding valid_data
valid_flat count =
    let members : List (List ℕ × Data) = (codes "functions", small count) ∷ [] in
    object_flat 0 127 members (omega arith) (small_flat 0 count, tt)
