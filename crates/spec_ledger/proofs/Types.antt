-- Cells stay of their types.
use Rattle.std.proofs.Common.{◌≡◌, ℕ, true, false, cond, Option, Some, None, refl, sym, ◌∙◌, subst}
use Rattle.std.specs.Ordering.{eq_by_cmp}
use Rattle.std.specs.FinMap.{get, get-empty, empty}
use Rattle.spec_ledger.specs.declared.Lock.{Lock}
use Rattle.spec_ledger.specs.Cells.{Cells, lock_cmp, set_at, IsOfItsType, AreOfTheirTypes}
use Rattle.spec_ledger.proofs.Maps.{get-set_at, is_key, lock_cmp_total, lock_cmp-IsAntisymmetric}

pub types-empty : AreOfTheirTypes empty
types-empty l v e = let none : None ≡ Some v = sym (get-empty lock_cmp l) ∙ e in cc

pub types-set_at : (m : Cells) (k : Lock) (c : Option ℕ) → AreOfTheirTypes m → ((v : ℕ) → c ≡ Some v → IsOfItsType k v) → AreOfTheirTypes (set_at m k c)
types-set_at m k c are here l v e =
    elim (eq_by_cmp lock_cmp l k) as (λ b. eq_by_cmp lock_cmp l k ≡ b → cond b c (get m l) ≡ Some v → IsOfItsType l v) [
      | true ↦ λ t f. let same : l ≡ k = is_key lock_cmp_total lock_cmp-IsAntisymmetric l k t in
          let P : Lock → Type 0 = λ x. IsOfItsType x v in subst P (sym same) (here v f)
      | false ↦ λ _ f. are l v f
    ] refl (sym (get-set_at lock_cmp_total m k c l) ∙ e)
