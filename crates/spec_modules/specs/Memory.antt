-- Linear memory as one list of bytes (Core 4.2.8, Memory Instances; 4.4.4, Memory Instructions). The reduction loads and stores by these.
use Rattle.std.specs.Prelude.{◌≡◌, ℕ, ◌+◌, ◌%◌, ◌^◌, ◌≤◌, nat_le, if◌then◌else◌, List, ◌++◌, length, take, drop, Result, Ok, Err}
use Rattle.wtypes.specs.declared.TrapCode.{TrapCode}
use Rattle.wtypes.specs.declared.TrapCode.TheVariants.{MemoryOutOfBounds}
use Rattle.spec_modules.specs.Storage.{number_of_bytes, bytes_of_number}

-- 4.4.4, t.load memarg: the number that the n bytes from an address on spell, where all of them lie in memory
abbrev pub load : List ℕ → ℕ → ℕ → Result ℕ TrapCode
load memory at n = if nat_le (at + n) (length memory) then Ok (number_of_bytes (take n (drop at memory))) else Err MemoryOutOfBounds

-- a list with these items in place from an index on
abbrev pub written : {X : Type 0} → ℕ → List X → List X → List X
written at items xs = take at xs ++ (items ++ drop (at + length items) xs)

-- 4.4.4, t.store memarg: memory with the n lowest bytes of a number in place from an address on, where all of them lie in memory
abbrev pub store : List ℕ → ℕ → ℕ → ℕ → Result (List ℕ) TrapCode
store memory at n x = if nat_le (at + n) (length memory) then Ok (written at (bytes_of_number n x) memory) else Err MemoryOutOfBounds

-- a load gives back the n lowest bytes of what was stored
abbrev pub LoadsGiveWhatWasStored : Type 0
LoadsGiveWhatWasStored = (memory : List ℕ) (at n x : ℕ) → at + n ≤ length memory → load (written at (bytes_of_number n x) memory) at n ≡ Ok (x % 256 ^ n)
