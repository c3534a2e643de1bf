-- Linear memory as contracts see it: one list of bytes, and a greatest number of pages (Core Specification, 4.2.8 Memory Instances; 4.4.4 Memory Instructions).
use Rattle.std.specs.Prelude.{◌≡◌, ℕ, ◌+◌, ◌*◌, ◌/◌, ◌<◌, ◌≤◌, List, ◌++◌, length, replicate, Result, Ok, Err, ℤ, pos, negsuc}
use Rattle.wtypes.specs.declared.TrapCode.TheVariants.{MemoryOutOfBounds}
use Rattle.spec_modules.specs.Profile.{page_size}
use Rattle.spec_modules.specs.Memory.{written}
use Rattle.wtypes.specs.declared.NoMemory.{NoMemory}
use Rattle.memory.specs.declared.StoreRefusal.{StoreRefusal}
use Rattle.memory.specs.declared.StoreRefusal.TheVariants as refusal

-- max is in pages
pub record Memory : Type 0 where
  pub bytes : List ℕ
  pub max : ℕ

-- the size in pages
abbrev pub pages : Memory → ℕ
pages memory = length memory.bytes / page_size

-- These bytes are written from an address on, exactly where all of them lie in memory. A refusal changes nothing, and one for lack of memory comes only in range.
abbrev pub Stored : {U : Type 0} → Result U StoreRefusal → Memory → ℕ → List ℕ → Memory → Type 0
Stored (Ok u) old at bytes new = (at + length bytes ≤ length old.bytes) × (new ≡ record old { bytes = written at bytes old.bytes })
Stored (Err (refusal.Trap code)) old at bytes new = (code ≡ MemoryOutOfBounds) × (length old.bytes < at + length bytes) × (new ≡ old)
Stored (Err refusal.NoMemory) old at bytes new = (at + length bytes ≤ length old.bytes) × (new ≡ old)

-- So many pages of zeros are added and the old size is answered, exactly where the greatest size is not passed; else the answer is -1. Out of memory is no answer.
abbrev pub Grown : Result ℤ NoMemory → Memory → ℕ → Memory → Type 0
Grown (Ok (pos n)) old delta new =
    (pages old + delta ≤ old.max) × (n ≡ pages old) × (new ≡ record old { bytes = old.bytes ++ replicate (page_size * delta) 0 })
Grown (Ok (negsuc n)) old delta new = (old.max < pages old + delta) × (n ≡ 0) × (new ≡ old)
Grown (Err e) old delta new = (pages old + delta ≤ old.max) × (new ≡ old)
