-- What holds of each item of a list holds at each place.
use Rattle.std.proofs.Common.{ℕ, zero, suc, ◌<◌, List, [], ◌∷◌, length, get_or, arith}
use Rattle.std.specs.List.{AllByRecursion}

pub at : {A : Type 0} (P : A → Type 0) (xs : List A) (i : ℕ) (d : A) → AllByRecursion P xs → i < length xs → P (get_or xs i d)
at P [] i d h lt = absurd (omega (arith, lt))
at P (x ∷ xs) zero d h lt = h.0
at P (x ∷ xs) (suc i) d h lt = at P xs i d h.1 (omega (arith, lt))
