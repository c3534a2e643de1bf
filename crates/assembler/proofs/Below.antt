-- Numbers below a bound.
use Rattle.std.proofs.Common.{◌≡◌, ℕ, suc, ◌<◌, true, List, [], ◌∷◌, length, get_or, refl, arith, nat_lt}
use Rattle.std.specs.List.{list_all}
use Rattle.std.proofs.lemmas.Bool.{lt-ltb}
use Rattle.spec_modules.specs.Limits.{both}

pub each_below : (limit : ℕ) (xs : List ℕ) → ((i d : ℕ) → i < length xs → get_or xs i d < limit) → list_all (λ n. nat_lt n limit) xs ≡ true
each_below limit [] h = refl
each_below limit (x ∷ xs) h =
    both (nat_lt x limit) (list_all (λ n. nat_lt n limit) xs) (lt-ltb x limit (h 0 0 (omega arith))) (each_below limit xs (λ i d l. h (suc i) d (omega arith)))
