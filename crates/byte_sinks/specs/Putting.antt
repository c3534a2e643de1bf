-- What a sink has taken.
use Rattle.std.specs.Prelude.{◌≡◌, ℕ, ◌+◌, ◌<◌, ◌≤◌, List, ◌++◌, take, length, Bool, true, false, IsTrue}

-- one failure more is counted
abbrev pub IsRaised : ℕ → ℕ → Type 0
IsRaised old new = new ≡ old + 1

-- a failure is counted where there was one
abbrev pub CountsIf : Bool → ℕ → ℕ → Type 0
CountsIf true old new = IsRaised old new
CountsIf false old new = new ≡ old

-- the first `n` bytes were put after those already there, at least one of a list that is not empty
pub record PutsSome (tells : Bool) (bytes : List ℕ) (n : ℕ) (old new : List ℕ) : Type 0 where
  pub within : n ≤ length bytes
  pub some : 0 < length bytes → 0 < n
  pub told : IsTrue tells → new ≡ old ++ take n bytes

-- a beginning of the bytes was put, and not all of them
pub record IsCutShort (old new bytes : List ℕ) : Type 0 where
  pub count : ℕ
  pub within : count < length bytes
  pub told : new ≡ old ++ take count bytes
