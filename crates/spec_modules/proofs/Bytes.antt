-- A load gives back what was stored.
use Rattle.std.proofs.Common.{◌≡◌, ℕ, zero, suc, ◌+◌, ◌*◌, ◌/◌, ◌%◌, ◌^◌, ◌<◌, ◌≤◌, List, length, take, drop, refl, sym, ap, ◌∙◌, arith}
use Rattle.std.specs.Prelude.{Ok}
use Rattle.std.proofs.Math.Nat.{pow-suc}
use Rattle.std.proofs.Math.Arith.{mod-mul}
use Rattle.std.proofs.lemmas.Grind.{common_steps}
use Rattle.spec_modules.specs.Storage.{number_of_bytes, bytes_of_number}
use Rattle.spec_modules.specs.Memory.{load, written, LoadsGiveWhatWasStored}

pub length-bytes_of_number : (n x : ℕ) → length (bytes_of_number n x) ≡ n
length-bytes_of_number zero x = refl
length-bytes_of_number (suc n) x = let h = length-bytes_of_number n (x / 256) in omega (arith, h)

positive : (n : ℕ) → 0 < 256 ^ n
positive zero = omega arith
positive (suc n) = let h = positive n in omega (arith, pow-suc 256 n)

pub number_of_bytes-bytes_of_number : (n x : ℕ) → number_of_bytes (bytes_of_number n x) ≡ x % 256 ^ n
number_of_bytes-bytes_of_number zero x = omega arith
number_of_bytes-bytes_of_number (suc n) x =
    let rest = number_of_bytes-bytes_of_number n (x / 256) in
    let digits = mod-mul x {m = 256 ^ n} {c = 256} (positive n) (omega arith) in
    let whole : x % 256 ^ suc n ≡ x % (256 ^ n * 256) = ap (λ m. x % m) (pow-suc 256 n) in
    omega (arith, rest, digits, whole)

found : (memory bytes : List ℕ) (at : ℕ) → at + length bytes ≤ length memory → take (length bytes) (drop at (written at bytes memory)) ≡ bytes
found memory bytes at h = grind (arith, common_steps)

long : (memory bytes : List ℕ) (at : ℕ) → at + length bytes ≤ length memory → length (written at bytes memory) ≡ length memory
long memory bytes at h = grind (arith, common_steps)

in_range : (memory : List ℕ) (at n x : ℕ) → at + n ≤ length memory → number_of_bytes (take n (drop at memory)) ≡ x → load memory at n ≡ Ok x
in_range memory at n x h e = grind arith

pub loads_give : LoadsGiveWhatWasStored
loads_give memory at n x h =
    let len = length-bytes_of_number n x in
    let within : at + length (bytes_of_number n x) ≤ length memory = omega (arith, len) in
    in_range (written at (bytes_of_number n x) memory) at n (x % 256 ^ n) (omega (arith, long memory (bytes_of_number n x) at within))
    (ap (λ k. number_of_bytes (take k (drop at (written at (bytes_of_number n x) memory)))) (sym len)
    ∙ ap number_of_bytes (found memory (bytes_of_number n x) at within) ∙ number_of_bytes-bytes_of_number n x)
