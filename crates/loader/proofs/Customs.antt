-- One more custom section.
use Rattle.std.proofs.Common.{◌≡◌, ℕ, zero, suc, ◌-◌, ◌≤◌, false, List, [], ◌∷◌, length, Some, None, refl, sym, ap, ◌∙◌, arith}
use Rattle.std.specs.Prelude.{◌==◌}
use Rattle.spec_modules.specs.Syntax.{Name}
use Rattle.laws_modules.specs.ReadingModules.{sized_at, name_at, skip_at}

pub skip_more : (n : ℕ) (rest after content following : List ℕ) (name : Name × List ℕ) → rest ≡ 0 ∷ after → length rest ≤ n
    → sized_at after ≡ Some (content, following) → name_at content ≡ Some name → skip_at n rest ≡ skip_at (n - 1) following
unfolding skip_at
skip_more zero rest after content following name is enough sized named = absurd (omega (arith, ap length is))
skip_more (suc n) rest after content following name is enough sized named =
    let e : suc n - 1 ≡ n = omega arith in
    ap (skip_at (suc n)) is ∙ rw (sized, named, e) refl

pub skip_unsized : (n : ℕ) (rest after : List ℕ) → rest ≡ 0 ∷ after → length rest ≤ n → sized_at after ≡ None → skip_at n rest ≡ None
unfolding skip_at
skip_unsized zero rest after is enough none = absurd (omega (arith, ap length is))
skip_unsized (suc n) rest after is enough none = ap (skip_at (suc n)) is ∙ rw none refl

pub skip_unnamed : (n : ℕ) (rest after content following : List ℕ) → rest ≡ 0 ∷ after → length rest ≤ n
    → sized_at after ≡ Some (content, following) → name_at content ≡ None → skip_at n rest ≡ None
unfolding skip_at
skip_unnamed zero rest after content following is enough sized none = absurd (omega (arith, ap length is))
skip_unnamed (suc n) rest after content following is enough sized none = ap (skip_at (suc n)) is ∙ rw (sized, none) refl

pub skip_other : (n b : ℕ) (rest after : List ℕ) → rest ≡ b ∷ after → (b == 0) ≡ false → skip_at n rest ≡ Some rest
unfolding skip_at
skip_other zero b rest after is other = refl
skip_other (suc n) b rest after is other = ap (skip_at (suc n)) is ∙ rw other (ap (λ l. Some l) (sym is))

pub skip_empty : (n : ℕ) (rest : List ℕ) → length rest ≡ 0 → skip_at n rest ≡ Some rest
unfolding skip_at
skip_empty zero rest none = refl
skip_empty (suc n) [] none = refl
skip_empty (suc n) (b ∷ bs) none = absurd (omega arith)
