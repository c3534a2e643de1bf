-- Integers and exponents, as they are read.
use Rattle.std.proofs.Common.{◌≡◌, ◌≢◌, ℕ, zero, suc, ◌+◌, ◌-◌, ◌*◌, ◌^◌, ◌<◌, ◌≤◌, List, Option, Some, None, refl, sym, ap, ◌∙◌, subst, arith, inl, inr}
use Rattle.std.specs.Prelude.{◌==◌}
use Rattle.std.proofs.Math.Pow.{pow-lt}
use Rattle.std.proofs.Math.Nat.{pow-le-pow_right, pow-suc}
use Rattle.std.proofs.lemmas.Bool.{cond-true, cond-false, eqb-true, eq-eqb, ne_eqb, cases_lt}
use Rattle.std.proofs.lemmas.Option.{none-some, same_Some}
use Rattle.spec_text.specs.Numbers.{IsBits}
use Rattle.lexer.specs.Values.{bits_at}
use Rattle.lexer.proofs.Amounts.{bits_are_read, read_are_bits}
use Rattle.text_resolve.proofs.Lookups.{picked}
use Rattle.text_resolve.specs.Plain.{exponent_from, exponent_at}

pub bits_found : (N : ℕ) (text : List ℕ) (n : ℕ) → IsBits N text n → bits_at N text ≡ Some n
bits_found N text n b = bits_are_read b

pub bits_none : (N : ℕ) → 1 ≤ 2 ^ N → (text : List ℕ) → ((n : ℕ) → IsBits N text n → ⊥) → bits_at N text ≡ None
bits_none N one text h = by_case (bits_at N text) refl
  where
    by_case : (o : Option ℕ) → bits_at N text ≡ o → o ≡ None
    by_case None e = refl
    by_case (Some n) e = absurd (h n (read_are_bits N one text n e))

-- ---- exponents

pub exponent_starts : (n : ℕ) → exponent_at n ≡ exponent_from 32 0 n
unfolding exponent_at
exponent_starts n = refl

pub exponent_here : (left e n : ℕ) → 0 < left → 2 ^ e ≡ n → exponent_from left e n ≡ Some e
exponent_here zero e n l is = absurd (omega arith)
exponent_here (suc left) e n l is = cond-true (2 ^ e == n) (Some e) (exponent_from left (e + 1) n) (eq-eqb (2 ^ e) n is)

pub exponent_on : (left e n : ℕ) → 0 < left → 2 ^ e ≢ n → exponent_from left e n ≡ exponent_from (left - 1) (e + 1) n
exponent_on zero e n l ne = absurd (omega arith)
exponent_on (suc left) e n l ne =
    cond-false (2 ^ e == n) (Some e) (exponent_from left (e + 1) n) (ne_eqb (2 ^ e) n ne) ∙ ap (λ k. exponent_from k (e + 1) n) (let s : left ≡ suc left - 1 = omega arith in s)

from_is : (left e n x : ℕ) → exponent_from left e n ≡ Some x → n ≡ 2 ^ x
from_is zero e n x h = absurd (none-some x h)
from_is (suc left) e n x h = elim (picked (2 ^ e == n) (Some e) (exponent_from left (e + 1) n) (Some x) h) [
  | inl p ↦ sym (eqb-true (2 ^ e) n p.0) ∙ ap (λ k. 2 ^ k) (same_Some e x p.1)
  | inr p ↦ from_is left (e + 1) n x p.1
]

pub exponent_is : (n x : ℕ) → exponent_at n ≡ Some x → n ≡ 2 ^ x
exponent_is n x h = from_is 32 0 n x (sym (exponent_starts n) ∙ h)

from_found : (left e n x j : ℕ) → n ≡ 2 ^ x → x ≡ e + j → j < left → exponent_from left e n ≡ Some x
from_found zero e n x j is at l = absurd (omega arith)
from_found (suc left) e n x zero is at l =
    let same : e ≡ x = omega arith in
    cond-true (2 ^ e == n) (Some e) (exponent_from left (e + 1) n) (eq-eqb (2 ^ e) n (ap (λ k. 2 ^ k) same ∙ sym is)) ∙ ap (λ (k : ℕ). Some k) same
from_found (suc left) e n x (suc j) is at l =
    let less : e < x = omega arith in
    let smaller : 2 ^ e < 2 ^ x = pow-lt less in
    let differ : 2 ^ e ≢ n = λ s. omega (arith, smaller, s ∙ is) in
    cond-false (2 ^ e == n) (Some e) (exponent_from left (e + 1) n) (ne_eqb (2 ^ e) n differ) ∙ from_found left (e + 1) n x j is (omega arith) (omega arith)

pub exponent_found : (n x : ℕ) → n ≡ 2 ^ x → n < 2 ^ 32 → exponent_at n ≡ Some x
exponent_found n x is small = exponent_starts n ∙ from_found 32 0 n x x is (omega arith) (below x 32 (subst (λ k. k < 2 ^ 32) is small))
  where
    below : (x k : ℕ) → 2 ^ x < 2 ^ k → x < k
    below x k l = elim (cases_lt x k) [ inl a ↦ a | inr b ↦ absurd (omega (arith, pow-le-pow_right {n = 2} (omega arith) b)) ]

pub doubled : (e power : ℕ) → power ≡ 2 ^ e → power * 2 ≡ 2 ^ (e + 1)
doubled e power is = ap (λ p. p * 2) is ∙ sym (ap (λ k. 2 ^ k) (let s : e + 1 ≡ suc e = omega arith in s) ∙ (let d : 2 ^ suc e ≡ 2 ^ e * 2 = omega (arith, pow-suc 2 e) in d))

pub exponent_past : (left e n : ℕ) → left ≡ 0 → exponent_from left e n ≡ None
exponent_past zero e n z = refl
exponent_past (suc left) e n z = absurd (omega arith)
