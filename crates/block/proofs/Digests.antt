-- A digest as a list of bytes.
use Rattle.std.proofs.Common.{ℕ, zero, suc, ◌<◌, List, [], ◌∷◌, arith}
use Rattle.std.specs.List.{AllByRecursion}
use Rattle.spec_block.specs.Bytes.{IsDigest}
use Rattle.records.specs.Exact.{AreBytes}
use Rattle.records.proofs.Numbers.{HasSize}

pub each_byte : (bytes : List ℕ) → AreBytes bytes → AllByRecursion (λ b. b < 256) bytes
each_byte [] h = tt
each_byte (b ∷ bytes) h = (h 0, each_byte bytes (λ i. h (suc i)))

are_bytes : (bytes : List ℕ) → AllByRecursion (λ b. b < 256) bytes → AreBytes bytes
are_bytes [] h i = omega arith
are_bytes (b ∷ bytes) h zero = h.0
are_bytes (b ∷ bytes) h (suc i) = are_bytes bytes h.1 i

pub is_digest : (bytes : List ℕ) → HasSize 32 bytes → IsDigest bytes
is_digest bytes h = record { size = h.0; bytes = each_byte bytes h.1 }

pub has_size : (bytes : List ℕ) → IsDigest bytes → HasSize 32 bytes
has_size bytes h = (h.size, are_bytes bytes h.bytes)
