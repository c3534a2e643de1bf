-- Runs of bytes in rising order of address, which do not meet. The bytes of all stand in one list.
use Rattle.std.specs.Prelude.{◌≡◌, ℕ, ◌+◌, ◌-◌, ◌*◌, ◌<◌, ◌≤◌, Bool, true, false, ◌&&◌, nat_le, nat_lt, List, [], ◌∷◌, All, replicate, take, Option, Some, None, option_map, unwrap_or, slice_get, slice_index, drop}
use Rattle.std.specs.Coded.{le_prop}
use Rattle.spec_modules.specs.Profile.{page_size, page_limit}
use Rattle.memory.specs.declared.start.Run.{Run}

-- ---- Bytes that stand at some addresses

-- the byte at an address; where none stands, zero
abbrev pub begun : (ℕ → Option ℕ) → ℕ → ℕ
begun start at = unwrap_or (start at) 0

abbrev pub chosen : Bool → Option ℕ → Option ℕ → Option ℕ
chosen true first second = first
chosen false first second = second

-- these bytes from an address on, and no others
abbrev pub own_byte : ℕ → List ℕ → ℕ → Option ℕ
own_byte at bytes k = chosen (nat_le at k) (slice_get bytes (k - at)) None

-- ---- Runs

abbrev pub run_of : ℕ → ℕ → ℕ → Run
run_of at len from = record { at = at; len = len; from = from }

abbrev pub end_of : Run → ℕ
end_of run = run.at + run.len

abbrev pub has : Run → ℕ → Bool
has run at = nat_le run.at at && nat_lt at (end_of run)

-- the place of the byte at an address in the list of all
abbrev pub place_in : List Run → ℕ → Option ℕ
place_in [] at = None
place_in (run ∷ runs) at = chosen (has run at) (Some (run.from + (at - run.at))) (place_in runs at)

-- the byte that stands at an address
abbrev pub standing : List Run → List ℕ → ℕ → Option ℕ
standing runs bytes at = option_map (slice_index bytes) (place_in runs at)

-- they have bytes, rise from an address on, and end where a memory does
abbrev pub AreRuns : ℕ → List Run → Type 0
AreRuns low [] = low ≤ page_size * page_limit
AreRuns low (run ∷ runs) = (low ≤ run.at) × (1 ≤ run.len) × AreRuns (end_of run) runs

pub AreRuns-prop : (low : ℕ) (runs : List Run) → IsProp (AreRuns low runs)
AreRuns-prop low [] = le_prop
AreRuns-prop low (run ∷ runs) = λ x y i. (le_prop x.0 y.0 i, le_prop x.1 y.1 i, AreRuns-prop (end_of run) runs x.2 y.2 i)

-- their bytes stand among so many
abbrev pub AreWithin : ℕ → List Run → Type 0
AreWithin count runs = All (λ run. run.from + run.len ≤ count) runs

-- what stands from an address on stands in the runs from this one on
abbrev pub IsNext : List Run → ℕ → ℕ → Type 0
IsNext runs index at = (k : ℕ) → at ≤ k → place_in runs k ≡ place_in (drop index runs) k

-- So many bytes from an address on stand from this place on; or none does.
abbrev pub IsPart : List Run → ℕ → Option ℕ → ℕ → Type 0
IsPart runs at from count = (j : ℕ) → j < count → place_in runs (at + j) ≡ option_map (λ place. place + j) from

-- so many bytes from a place on; or zeros
abbrev pub part_bytes : List ℕ → Option ℕ → ℕ → List ℕ
part_bytes bytes None count = replicate count 0
part_bytes bytes (Some from) count = take count (drop from bytes)

-- So many bytes are added from an address on, behind all others: from this place on, or none.
pub record HasAdded (old : ℕ → Option ℕ) (at : ℕ) (from : ℕ → Option ℕ) (count : ℕ) (new : ℕ → Option ℕ) : Type 0 where
  pub below : (k : ℕ) → k < at → new k ≡ old k
  pub there : (j : ℕ) → j < count → new (at + j) ≡ from j
  pub behind : (k : ℕ) → at + count ≤ k → new k ≡ None
