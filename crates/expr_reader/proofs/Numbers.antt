-- A number at the front of bytes.
use Rattle.std.proofs.Common.{◌≡◌, ℕ, zero, suc, ◌-◌, ◌≤◌, List, [], ◌∷◌, ◌++◌, length, take, drop, slice_range, Some, None, refl, sym, ap, ◌∙◌, arith}
use Rattle.std.proofs.lemmas.List.{take-append-drop, length-drop}
use Rattle.spec_modules.specs.Language.{Language}
use Rattle.spec_modules.specs.Reading.{Read}
use Rattle.spec_modules.specs.NumberLaws.{Found}

take_whole : (xs : List ℕ) (n : ℕ) → length xs ≤ n → take n xs ≡ xs
take_whole [] zero h = refl
take_whole [] (suc n) h = refl
take_whole (x ∷ xs) zero h = absurd (omega arith)
take_whole (x ∷ xs) (suc n) h = ap (λ l. x ∷ l) (take_whole xs n (omega arith))

-- the slice from a place on
pub from_on : (bytes : List ℕ) (at : ℕ) → take (length bytes - at) (drop at bytes) ≡ drop at bytes
from_on bytes at = take_whole (drop at bytes) (length bytes - at) (omega (arith, length-drop at bytes))

module _ {X : Type 0} (F : X → Language) (r : List ℕ → Read X) where
  pub found_is : ((a : List ℕ) (x : X) (rest : List ℕ) → F x a → r (a ++ rest) ≡ Some (x, rest))
      → (bytes : List ℕ) (x : X) (next : ℕ) → F x (slice_range bytes 0 next) → r bytes ≡ Some (x, take (length bytes - next) (drop next bytes))
  found_is again bytes x next s =
      let rest = take (length bytes - next) (drop next bytes) in
      let n : next - 0 ≡ next = omega arith in
      let whole : slice_range bytes 0 next ++ rest ≡ bytes =
      ap (λ k. take k bytes ++ rest) n ∙ ap (λ l. take next bytes ++ l) (from_on bytes next) ∙ take-append-drop next bytes in
      ap r (sym whole) ∙ again (slice_range bytes 0 next) x rest s

  pub none_is : ((bytes : List ℕ) (x : X) (rest : List ℕ) → r bytes ≡ Some (x, rest) → Found F bytes x rest)
      → (bytes : List ℕ) → ((x : X) (a rest : List ℕ) → F x a → drop 0 bytes ≡ a ++ rest → ⊥) → r bytes ≡ None
  none_is takes bytes h = cases (r bytes) refl
    where
      cases : (o : Read X) → r bytes ≡ o → o ≡ None
      cases None e = refl
      cases (Some s) e = let f = takes bytes s.0 s.1 e in absurd (h s.0 f.0 s.1 f.2 f.1)
