-- Seven bits more.
use Rattle.std.proofs.Common.{◌≡◌, ℕ, zero, suc, ◌+◌, ◌-◌, ◌*◌, ◌/◌, ◌^◌, ◌<◌, ◌≤◌, arith, ap, sym, ◌∙◌}
use Rattle.std.proofs.Math.Pow.{pow_mono}
use Rattle.std.proofs.lemmas.Nat.{pow-add}

pub seven_less : (bits : ℕ) → 7 ≤ bits → 128 * 2 ^ (bits - 7) ≡ 2 ^ bits
seven_less bits h =
    let e : 7 + (bits - 7) ≡ bits = omega arith in
    sym (pow-add 2 7 (bits - 7)) ∙ ap (λ n. 2 ^ n) e

pub seven_below : (bits : ℕ) → 7 ≤ bits → 128 ≤ 2 ^ bits
seven_below bits h = pow_mono h

pub step_below : (bits b high : ℕ) → 7 ≤ bits → b < 256 → high < 2 ^ (bits - 7) → 128 * high + (b - 128) < 2 ^ bits
step_below bits b high h s l = let e = seven_less bits h in omega arith

pub at_most_64 : (bits : ℕ) → bits ≤ 64 → 2 ^ bits ≤ 2 ^ 64
at_most_64 bits h = pow_mono h

pub half_at_least_64 : (bits : ℕ) → 7 ≤ bits → 64 ≤ 2 ^ (bits - 1)
half_at_least_64 bits h = let l : 6 ≤ bits - 1 = omega arith in pow_mono l

pub half_less : (bits : ℕ) → 8 ≤ bits → 128 * 2 ^ ((bits - 7) - 1) ≡ 2 ^ (bits - 1)
half_less bits h =
    let e : 7 + ((bits - 7) - 1) ≡ bits - 1 = omega arith in
    sym (pow-add 2 7 ((bits - 7) - 1)) ∙ ap (λ n. 2 ^ n) e

pub half_at_most : (bits : ℕ) → bits ≤ 64 → 2 ^ (bits - 1) ≤ 2 ^ 63
half_at_most bits h = let l : bits - 1 ≤ 63 = omega arith in pow_mono l

pub seven_fewer : (more n : ℕ) → 128 ≤ n → n < 2 ^ (7 * more + 7) → (0 < more) × (n / 128 < 2 ^ (7 * (more - 1) + 7))
seven_fewer zero n le lt = absurd (omega arith)
seven_fewer (suc more) n le lt =
    let e : 7 * suc more + 7 ≡ 7 + (7 * (suc more - 1) + 7) = omega arith in
    let p : 2 ^ (7 * suc more + 7) ≡ 128 * 2 ^ (7 * (suc more - 1) + 7) = ap (λ k. 2 ^ k) e ∙ pow-add 2 7 (7 * (suc more - 1) + 7) in
    (omega arith, omega arith)

pub signed_fewer : (more n : ℕ) → 64 ≤ n → n < 2 ^ (7 * more + 6) → (0 < more) × (n / 128 < 2 ^ (7 * (more - 1) + 6))
signed_fewer zero n le lt = absurd (omega arith)
signed_fewer (suc more) n le lt =
    let e : 7 * suc more + 6 ≡ 7 + (7 * (suc more - 1) + 6) = omega arith in
    let p : 2 ^ (7 * suc more + 6) ≡ 128 * 2 ^ (7 * (suc more - 1) + 6) = ap (λ k. 2 ^ k) e ∙ pow-add 2 7 (7 * (suc more - 1) + 6) in
    (omega arith, omega arith)
