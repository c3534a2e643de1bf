-- What SHA-256 gives is a digest.
use Rattle.std.proofs.Common.{◌≡◌, ℕ, zero, suc, ◌<◌, ◌%◌, ◌/◌, ◌^◌, List, [], ◌∷◌, ◌++◌, slice_index, arith, mod-lt}
use Rattle.std.specs.List.{AllByRecursion}
use Rattle.std.specs.Int.{w32, byte_at, bytes_high_first, to_be_bytes}
use Rattle.sha2.specs.Sha256.{digest_bytes, sha256}
use Rattle.sha2.proofs.Facts256.{length-sha256}
use Rattle.spec_block.specs.Bytes.{IsDigest}

small : (k n : ℕ) → byte_at k n < 256
small zero n = mod-lt n {m = 256} (omega arith)
small (suc k) n = mod-lt (n / 256 ^ suc k) {m = 256} (omega arith)

are_small : (k n : ℕ) → AllByRecursion (λ b. b < 256) (bytes_high_first k n)
are_small zero n = tt
are_small (suc k) n = (small k n, are_small k n)

both_small : (xs ys : List ℕ) → AllByRecursion (λ b. b < 256) xs → AllByRecursion (λ b. b < 256) ys → AllByRecursion (λ b. b < 256) (xs ++ ys)
both_small [] ys a b = b
both_small (x ∷ xs) ys a b = (a.0, both_small xs ys a.1 b)

words_small : (h : List ℕ) (n : ℕ) → AllByRecursion (λ b. b < 256) (digest_bytes h n)
unfolding digest_bytes
words_small h zero = tt
words_small h (suc n) = both_small (digest_bytes h n) (to_be_bytes w32 (slice_index h n)) (words_small h n) (are_small 4 (slice_index h n))

pub is_digest : (m : List ℕ) → IsDigest (sha256 m)
unfolding sha256
is_digest m = record { size = length-sha256 m; bytes = words_small _ 8 }
