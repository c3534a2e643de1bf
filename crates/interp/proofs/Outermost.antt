-- Whether a level is around the innermost one, by how many are kept.
use Rattle.std.proofs.Common.{◌≡◌, ℕ, true, false, true≢false, List, [], ◌∷◌, length, refl, sym, ap, ◌∙◌, arith}
use Rattle.std.specs.Prelude.{◌==◌}
use Rattle.std.proofs.lemmas.Bool.{ne_eqb}
use Rattle.wtypes.specs.declared.Value.{Value}
use Rattle.interp.specs.declared.run.Level.{Level}
use Rattle.interp.specs.Run.{levels_of}
use Rattle.interp.proofs.Around.{none_kept}

pub no_items : {X : Type 0} (xs : List X) → (length xs == 0) ≡ true → xs ≡ []
no_items [] e = refl
no_items (x ∷ xs) e = absurd (true≢false (sym e ∙ ne_eqb (length (x ∷ xs)) 0 (λ q. omega (arith, q))))

-- none is kept, or some are
pub none_at : {X : Type 0} (xs : List X) {n : ℕ} → n ≡ length xs → (n == 0) ≡ true → xs ≡ []
none_at xs e h = no_items xs (ap (λ k. k == 0) (sym e) ∙ h)

pub some_at : {X : Type 0} (xs : List X) {n : ℕ} → n ≡ length xs → (n == 0) ≡ false → xs ≡ [] → ⊥
some_at xs e h none = true≢false (sym (ap (λ k. k == 0) (e ∙ ap length none)) ∙ h)

-- the same of the levels in the words of the definitions
pub none_around : {A : Type 0} (args : List Value) (ls : List (Level A)) {n : ℕ} → n ≡ length ls → (n == 0) ≡ true → levels_of args ls ≡ []
none_around args ls e h = ap (levels_of args) (none_at ls e h)

pub one_around : {A : Type 0} (args : List Value) (ls : List (Level A)) {n : ℕ} → n ≡ length ls → (n == 0) ≡ false → levels_of args ls ≡ [] → ⊥
one_around args ls e h none = some_at ls e h (none_kept args ls none)
