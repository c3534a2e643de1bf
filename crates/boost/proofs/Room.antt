-- A push into reserved memory, and what a result tells.
use Rattle.std.proofs.Common.{◌≡◌, ℕ, ◌+◌, ◌≤◌, false, IfErr, ap, arith}
use Rattle.std.specs.Prelude.{◌↔◌}
use Rattle.std.specs.Result.{is_err, OnOk}
use Rattle.std.specs.declared.result.Result.{Result}
use Rattle.std.specs.declared.result.Result.TheVariants.{Ok, Err}

-- a push does not fail where what came before made room
pub no_room : {T E : Type 0} {n capacity : ℕ} (r : Result T E) → false ≡ is_err r → OnOk r (n + 1 ≤ capacity) → capacity ≤ n → ⊥
no_room (Ok x) is room full = omega (arith, room, full)
no_room (Err y) is room full = cc

-- what a call ensures where it succeeds, which it did
pub succeeded : {T E : Type 0} {P : Type 0} (r : Result T E) → false ≡ is_err r → OnOk r P → P
succeeded (Ok x) is h = h
succeeded (Err y) is h = absurd (cc is)

-- a refusal that hands its argument back, and that tells S
pub refused : {T E : Type 0} {S : Type 0} (r : Result T E) (t x : E) → r ≡ Err x → IfErr r (λ back. back ≡ t) → (r ≡ Err t) ↔ S → S
refused (Ok y) t x is same h = absurd (cc is)
refused (Err e) t x is same h = h.0 (ap (λ y. Err y) same)
