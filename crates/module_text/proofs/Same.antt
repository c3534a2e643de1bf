-- Modules that have one shortest spelling are one.
use Rattle.std.proofs.Common.{◌≡◌, ◌↔◌, IsTrue, ℕ, Bool, List, sym, ap, subst, ◌∙◌}
use Rattle.std.specs.Str.{bytes_eq}
use Rattle.std.proofs.lemmas.Slice.Eq.{bytes_eq-Decides}
use Rattle.spec_modules.specs.Syntax.{Module}
use Rattle.spec_modules.specs.Spells.{Spells}
use Rattle.spec_modules.specs.Shortest.{shortest}

pub same_spelling : ((bytes : List ℕ) (m n : Module) → Spells bytes m → Spells bytes n → m ≡ n) → (m n : Module) (xs ys : List ℕ) (r : Bool) → xs ≡ shortest m → ys ≡ shortest n
    → Spells (shortest m) m → Spells (shortest n) n → r ≡ bytes_eq xs ys → IsTrue r ↔ (m ≡ n)
same_spelling one_tree m n xs ys r e f s t is = (
  λ yes.
      let same : xs ≡ ys = (bytes_eq-Decides xs ys).0 (sym is ∙ yes) in
      one_tree (shortest m) m n s (subst (λ (bytes : List ℕ). Spells bytes n) (sym f ∙ (sym same ∙ e)) t),
  λ one. is ∙ (bytes_eq-Decides xs ys).1 (e ∙ (ap shortest one ∙ sym f)),
)
