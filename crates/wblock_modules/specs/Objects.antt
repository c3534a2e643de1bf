-- What the commands on modules tell as JSON.
use Rattle.std.specs.Prelude.{ℕ, List, [], ◌∷◌, Option, Some, None, codes}
use Rattle.std.specs.Borrow.{Bor}
use Rattle.serde_json.specs.Data.{Data, null}
use Rattle.wblock_json.specs.Json.{object_of, small}

-- how many contracts OLD has, where OLD is named
abbrev pub onto_data : Option (Bor (List ℕ)) → ℕ → Data
onto_data None before = null
onto_data (Some old) before = small before

-- so many contracts were deployed, behind so many of OLD
unfoldable pub deployed_data : (count : ℕ) → Option (Bor (List ℕ)) → (before : ℕ) → Data
deployed_data count onto before = object_of ((codes "contracts", small count) ∷ (codes "onto", onto_data onto before) ∷ [])

-- a valid module defines so many functions
unfoldable pub valid_data : (count : ℕ) → Data
valid_data count = object_of ((codes "functions", small count) ∷ [])
