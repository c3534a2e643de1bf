-- A map of the program from locks as a finite map.
use Rattle.std.proofs.Common.{◌≡◌, ◌<◌, cond, Option, Some, List, [], ◌∷◌, length, refl, sym, ◌∙◌, ap, arith}
use Rattle.std.specs.Ordering.{eq_by_cmp, is_eq}
use Rattle.std.specs.Cmp.{eq_by_cmp_equiv}
use Rattle.std.specs.Map.{lookup}
use Rattle.std.specs.FinMap.{get, from_entries, get-from_entries, find, empty, same_map}
use Rattle.std.specs.BTreeMap as tree
use Rattle.std.specs.BTreeMap.{BTreeMap}
use Rattle.spec_ledger.specs.declared.Lock.{Lock}
use Rattle.spec_ledger.specs.Cells.{lock_cmp, set_at}
use Rattle.spec_ledger.proofs.Maps.{get-set_at, lock_cmp_total, lock_cmp-IsAntisymmetric}

module _ {X : Type 0} where
  find_lookup : (es : List (Lock × X)) (q : Lock) → find lock_cmp q es ≡ lookup (λ k. is_eq (lock_cmp q k)) es
  find_lookup [] q = refl
  find_lookup (e ∷ es) q = ap (cond (eq_by_cmp lock_cmp q e.0) (Some e.1)) (find_lookup es q)

  get-view : (es : List (Lock × X)) (q : Lock) → get (from_entries {R = lock_cmp} es) q ≡ lookup (λ k. is_eq (lock_cmp q k)) es
  get-view es q = get-from_entries lock_cmp_total es q ∙ find_lookup es q

  pub found : (m : BTreeMap Lock X) (lock : Lock) (o : Option X) → o ≡ tree.get lock_cmp m lock → o ≡ get (from_entries {R = lock_cmp} m.entries) lock
  found m lock o is = is ∙ sym (get-view m.entries lock)

  pub written : (m n : BTreeMap Lock X) (lock : Lock) (o : Option X) → ((q : Lock) → tree.get lock_cmp n q ≡ cond (eq_by_cmp lock_cmp lock q) o (tree.get lock_cmp m q))
      → from_entries {R = lock_cmp} n.entries ≡ set_at (from_entries m.entries) lock o
  written m n lock o h =
      same_map lock_cmp_total lock_cmp-IsAntisymmetric _ _ (λ q.
      get-view n.entries q ∙ h q
      ∙ ap (λ x. cond (eq_by_cmp lock_cmp lock q) o x) (sym (get-view m.entries q))
      ∙ ap (λ b. cond b o (get (from_entries {R = lock_cmp} m.entries) q)) ((eq_by_cmp_equiv lock_cmp_total).symm lock q)
      ∙ sym (get-set_at lock_cmp_total (from_entries m.entries) lock o q))

  pub nothing : (es : List (Lock × X)) → ¬ (0 < length es) → from_entries {R = lock_cmp} es ≡ empty
  nothing [] h = refl
  nothing (e ∷ es) h = absurd (h (omega arith))
