-- A spelling at a place in bytes.
use Rattle.std.proofs.Common.{◌≡◌, ℕ, zero, suc, [], ◌∷◌, refl, ◌+◌, ◌-◌, ◌<◌, ◌≤◌, List, ◌++◌, length, take, drop, slice_range, ℤ, sym, ap, subst, ◌∙◌, arith, length-append, length-drop}
use Rattle.std.proofs.Math.Seq.{take-append_seam}
use Rattle.spec_modules.specs.Language.{Language}
use Rattle.spec_modules.specs.Leb.{unsigned, signed}
use Rattle.spec_modules.specs.NumberLaws.{Found}

pub found_at : {X : Type 0} (F : X → Language) (bytes rest : List ℕ) (at : ℕ) (x : X) → at ≤ length bytes → Found F (drop at bytes) x rest → length rest < length (drop at bytes)
    → (at < length bytes - length rest) × (length bytes - length rest ≤ length bytes) × F x (slice_range bytes at (length bytes - length rest))
found_at F bytes rest at x le f shorter =
    let a = f.0 in
    let len = length-drop at bytes in
    let parts : length (drop at bytes) ≡ length a + length rest = ap length f.1 ∙ length-append a rest in
    let next : (length bytes - length rest) - at ≡ length a = omega arith in
    let is : slice_range bytes at (length bytes - length rest) ≡ a =
    ap (λ n. take n (drop at bytes)) next ∙ ap (take (length a)) f.1 ∙ take-append_seam a rest in
    (omega arith, omega arith, subst (F x) (sym is) f.2)

take_whole : (xs : List ℕ) (n : ℕ) → length xs ≤ n → take n xs ≡ xs
take_whole [] zero h = refl
take_whole [] (suc n) h = refl
take_whole (x ∷ xs) zero h = absurd (omega arith)
take_whole (x ∷ xs) (suc n) h = ap (λ l. x ∷ l) (take_whole xs n (omega arith))

-- the slice from a place on
pub from_on : (bytes : List ℕ) (at : ℕ) → take (length bytes - at) (drop at bytes) ≡ drop at bytes
from_on bytes at = take_whole (drop at bytes) (length bytes - at) (omega (arith, length-drop at bytes))

-- nothing is spelled past the end
nil_front : (a rest : List ℕ) → [] ≡ a ++ rest → a ≡ []
nil_front [] rest e = refl
nil_front (x ∷ a) rest e = cc

past : (bytes a rest : List ℕ) (at : ℕ) → length bytes < at → drop at bytes ≡ a ++ rest → a ≡ []
past bytes a rest at lt e = nil_front a rest (sym (none (drop at bytes) (omega (arith, length-drop at bytes))) ∙ e)
  where
    none : (l : List ℕ) → length l ≡ 0 → l ≡ []
    none [] z = refl
    none (x ∷ l) z = absurd (omega arith)

pub no_unsigned_past : (bits n : ℕ) (bytes a rest : List ℕ) (at : ℕ) → length bytes < at → unsigned bits n a → drop at bytes ≡ a ++ rest → ⊥
no_unsigned_past bits n bytes a rest at lt u e = subst (unsigned bits n) (past bytes a rest at lt e) u

pub no_signed_past : (bits : ℕ) (z : ℤ) (bytes a rest : List ℕ) (at : ℕ) → length bytes < at → signed bits z a → drop at bytes ≡ a ++ rest → ⊥
no_signed_past bits z bytes a rest at lt u e = subst (signed bits z) (past bytes a rest at lt e) u
