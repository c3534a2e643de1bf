-- What files hold, by name. A name is a text, and what is said is of files that tell their bytes.
use Rattle.std.specs.Prelude.{◌≡◌, ◌≢◌, ℕ, ◌+◌, ◌≤◌, ◌<◌, List, [], ◌∷◌, ◌++◌, take, length, IsTrue, Bool, true, false, Option, Some}
use Rattle.wblock_io.specs.declared.files.WriteFault.{WriteFault}
use Rattle.wblock_io.specs.declared.files.WriteFault.TheVariants.{Failed, NoMemory}

-- by name, the bytes of each file that is there
abbrev pub Holding : Type 0
Holding = List ℕ → Option (List ℕ)

-- the file of one name is there and holds these bytes, and every other file is as it was
pub record Changes (old new : Holding) (name bytes : List ℕ) : Type 0 where
  pub here : new name ≡ Some bytes
  pub others : (other : List ℕ) → other ≢ name → new other ≡ old other

-- ---- drafts

-- a file that is being written, and its bytes so far, which no file holds yet
abbrev pub Draft : Type 0
Draft = List ℕ × List ℕ

-- the first `n` bytes were put at the end of the last draft, which is of this file: at least one of a list that is not empty
pub record PutsSomeIn (tells : Bool) (name bytes : List ℕ) (n : ℕ) (old new : List Draft) : Type 0 where
  pub within : n ≤ length bytes
  pub some : 0 < length bytes → 0 < n
  pub told : IsTrue tells → (others : List Draft) (front : List ℕ) → old ≡ others ++ (name, front) ∷ [] → new ≡ others ++ (name, front ++ take n bytes) ∷ []

-- the file of this name holds all of the first draft, which has ended, and every other file is as it was
abbrev pub IsKept : List ℕ → (drafts left : List Draft) → (old new : Holding) → Type 0
IsKept name drafts left old new = (bytes : List ℕ) (others : List Draft) → drafts ≡ (name, bytes) ∷ others → Changes old new name bytes × (left ≡ others)

-- ---- failures

-- how many calls have failed, and the name of the file of the last of them
pub record Failing : Type 0 where
  pub count : ℕ
  pub last : List ℕ

-- one call more has failed: one on the file of this name
pub record IsFailed (name : List ℕ) (old new : Failing) : Type 0 where
  pub counted : new.count ≡ old.count + 1
  pub named : new.last ≡ name

-- a failure on the file of this name is noted where there was one
abbrev pub FailsIf : Bool → List ℕ → Failing → Failing → Type 0
FailsIf true name old new = IsFailed name old new
FailsIf false name old new = new ≡ old

-- a failure to write the file of this name is noted, and want of memory is none
abbrev pub IsNoted : WriteFault → List ℕ → Failing → Failing → Type 0
IsNoted (Failed cause) name old new = IsFailed name old new
IsNoted NoMemory name old new = new ≡ old
