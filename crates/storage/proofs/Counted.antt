-- Changes opened and closed in turn.
use Rattle.std.proofs.Common.{◌≡◌, ℕ, zero, suc, ◌+◌, ◌-◌, ◌<◌, Option, List, [], ◌∷◌, ◌++◌, refl, sym, ◌∙◌, ap, subst, arith}
use Rattle.std.proofs.Common.{true, false, cond}
use Rattle.std.specs.Ordering.{eq_by_cmp}
use Rattle.std.specs.FinMap as finite
use Rattle.spec_ledger.specs.declared.Lock.{Lock}
use Rattle.spec_ledger.specs.declared.Inverse.{Inverse}
use Rattle.spec_ledger.specs.declared.Inverse.TheVariants.{Keep, Subtract, Restore}
use Rattle.spec_ledger.specs.Cells.{Cells, lock_cmp, counter, number, update, map_at, counter_at, back}
use Rattle.spec_ledger.specs.Book.{back_all}
use Rattle.spec_ledger.proofs.Maps.{get-update, update_comm, update_back, key_itself, lock_cmp_total, lock_cmp-IsAntisymmetric}
use Rattle.storage.specs.Counts.{Counts, count_at, opened, closed, IsUnsettled, opened_all, closed_all, AreUnsettled, AreCounts}

pub back_all-push : (is : List Inverse) (i : Inverse) (m : Cells) → back_all (is ++ i ∷ []) m ≡ back_all is (back i m)
back_all-push [] i m = refl
back_all-push (j ∷ is) i m = ap (back j) (back_all-push is i m)

pub closed_all-push : (is : List Inverse) (i : Inverse) (m : Counts) → closed_all (is ++ i ∷ []) m ≡ closed_all is (closed i m)
closed_all-push [] i m = refl
closed_all-push (j ∷ is) i m = ap (closed j) (closed_all-push is i m)

pub AreUnsettled-push : (is : List Inverse) (i : Inverse) (m : Counts) → AreUnsettled (is ++ i ∷ []) m → IsUnsettled i m × AreUnsettled is (closed i m)
AreUnsettled-push [] i m h = (h.1, tt)
AreUnsettled-push (j ∷ is) i m h =
    let rest = AreUnsettled-push is i m h.0 in
    (rest.0, (rest.1, subst (IsUnsettled j) (closed_all-push is i m) h.1))

-- ---- open and close

number-counter : (n : ℕ) → number (counter n) ≡ n
number-counter zero = refl
number-counter (suc n) = refl

less_one : (c : Option ℕ) → counter (number c) ≡ c → counter (number (counter (number c + 1)) - 1) ≡ c
less_one c e = ap (λ x. counter (x - 1)) (number-counter (number c + 1)) ∙ ap counter (omega arith) ∙ e

pub closed-opened : (i : Inverse) (m : Counts) → AreCounts m → closed i (opened i m) ≡ m
closed-opened Keep m are = refl
closed-opened (Subtract p v) m are = update_back lock_cmp_total lock_cmp-IsAntisymmetric m (counter_at p) (λ n. counter (number n + 1)) (λ n. counter (number n - 1)) (less_one _ (are.each (counter_at p)))
closed-opened (Restore p c) m are = update_back lock_cmp_total lock_cmp-IsAntisymmetric m (map_at p) (λ n. counter (number n + 1)) (λ n. counter (number n - 1)) (less_one _ (are.each (map_at p)))

one_more : (m : Counts) (l : Lock) → 0 < count_at (update m l (λ n. counter (number n + 1))) l
one_more m l =
    let e : finite.get (update m l (λ n. counter (number n + 1))) l ≡ counter (number (finite.get m l) + 1) =
    get-update lock_cmp_total lock_cmp-IsAntisymmetric m l (λ n. counter (number n + 1)) l ∙ ap (λ b. cond b (counter (number (finite.get m l) + 1)) (finite.get m l)) (key_itself lock_cmp_total lock_cmp-IsAntisymmetric l) in
    let f : count_at (update m l (λ n. counter (number n + 1))) l ≡ number (finite.get m l) + 1 = ap number e ∙ number-counter (number (finite.get m l) + 1) in
    omega (arith, f)

IsUnsettled-opened : (i : Inverse) (m : Counts) → IsUnsettled i (opened i m)
IsUnsettled-opened Keep m = tt
IsUnsettled-opened (Subtract p v) m = one_more m (counter_at p)
IsUnsettled-opened (Restore p c) m = one_more m (map_at p)

counts_update : (m : Counts) (l : Lock) (f : ℕ → ℕ) → AreCounts m → AreCounts (update m l (λ n. counter (f (number n))))
counts_update m l f are = record {
  each = λ q. subst (λ (x : Option ℕ). counter (number x) ≡ x) (sym (get-update lock_cmp_total lock_cmp-IsAntisymmetric m l (λ n. counter (f (number n))) q))
      (elim (eq_by_cmp lock_cmp q l) as (λ b. counter (number (cond b (counter (f (number (finite.get m q)))) (finite.get m q))) ≡ cond b (counter (f (number (finite.get m q)))) (finite.get m q)) [
        | true ↦ ap counter (number-counter _)
        | false ↦ are.each q
      ]);
}

pub AreCounts-opened : (i : Inverse) (m : Counts) → AreCounts m → AreCounts (opened i m)
AreCounts-opened Keep m are = are
AreCounts-opened (Subtract p v) m are = counts_update m (counter_at p) (λ n. n + 1) are
AreCounts-opened (Restore p c) m are = counts_update m (map_at p) (λ n. n + 1) are

pub AreCounts-opened_all : (is : List Inverse) (m : Counts) → AreCounts m → AreCounts (opened_all is m)
AreCounts-opened_all [] m are = are
AreCounts-opened_all (i ∷ is) m are = AreCounts-opened_all is (opened i m) (AreCounts-opened i m are)

pub AreCounts-empty : AreCounts finite.empty
AreCounts-empty = record { each = λ l. subst (λ (x : Option ℕ). counter (number x) ≡ x) (sym (finite.get-empty lock_cmp l)) refl }

pub closed_all-opened_all : (is : List Inverse) (m : Counts) → AreCounts m → closed_all is (opened_all is m) ≡ m
closed_all-opened_all [] m are = refl
closed_all-opened_all (i ∷ is) m are = ap (closed i) (closed_all-opened_all is (opened i m) (AreCounts-opened i m are)) ∙ closed-opened i m are

pub AreUnsettled-opened_all : (is : List Inverse) (m : Counts) → AreCounts m → AreUnsettled is (opened_all is m)
AreUnsettled-opened_all [] m are = tt
AreUnsettled-opened_all (i ∷ is) m are = (
  AreUnsettled-opened_all is (opened i m) (AreCounts-opened i m are),
  subst (IsUnsettled i) (sym (closed_all-opened_all is (opened i m) (AreCounts-opened i m are))) (IsUnsettled-opened i m),
)

opened_comm : (i j : Inverse) (m : Counts) → opened i (opened j m) ≡ opened j (opened i m)
opened_comm Keep j m = refl
opened_comm (Subtract p v) Keep m = refl
opened_comm (Restore p c) Keep m = refl
opened_comm (Subtract p v) (Subtract q w) m = update_comm lock_cmp_total lock_cmp-IsAntisymmetric m (counter_at p) (counter_at q) (λ n. counter (number n + 1)) (λ n. counter (number n + 1)) (λ _ _. refl)
opened_comm (Subtract p v) (Restore q d) m = update_comm lock_cmp_total lock_cmp-IsAntisymmetric m (counter_at p) (map_at q) (λ n. counter (number n + 1)) (λ n. counter (number n + 1)) (λ _ _. refl)
opened_comm (Restore p c) (Subtract q w) m = update_comm lock_cmp_total lock_cmp-IsAntisymmetric m (map_at p) (counter_at q) (λ n. counter (number n + 1)) (λ n. counter (number n + 1)) (λ _ _. refl)
opened_comm (Restore p c) (Restore q d) m = update_comm lock_cmp_total lock_cmp-IsAntisymmetric m (map_at p) (map_at q) (λ n. counter (number n + 1)) (λ n. counter (number n + 1)) (λ _ _. refl)

opened_late : (i : Inverse) (is : List Inverse) (m : Counts) → opened_all is (opened i m) ≡ opened i (opened_all is m)
opened_late i [] m = refl
opened_late i (j ∷ is) m = ap (opened_all is) (opened_comm j i m) ∙ opened_late i is (opened j m)

pub opened_all_comm : (is js : List Inverse) (m : Counts) → opened_all is (opened_all js m) ≡ opened_all js (opened_all is m)
opened_all_comm is [] m = refl
opened_all_comm is (j ∷ js) m = opened_all_comm is js (opened j m) ∙ ap (opened_all js) (opened_late j is m)

pub opened_all-push : (is : List Inverse) (i : Inverse) (m : Counts) → opened_all (is ++ i ∷ []) m ≡ opened i (opened_all is m)
opened_all-push [] i m = refl
opened_all-push (j ∷ is) i m = opened_all-push is i (opened j m)

pub opened_all-append : (is js : List Inverse) (m : Counts) → opened_all (is ++ js) m ≡ opened_all js (opened_all is m)
opened_all-append [] js m = refl
opened_all-append (i ∷ is) js m = opened_all-append is js (opened i m)

-- the last of a list taken
module _ (old new : List Inverse) (i : Inverse) (is : old ≡ new ++ i ∷ []) where
  pub back_all_popped : (m : Cells) → back_all new (back i m) ≡ back_all old m
  back_all_popped m = sym (ap (λ x. back_all x m) is ∙ back_all-push new i m)

  pub closed_all_popped : (m : Counts) → closed_all new (closed i m) ≡ closed_all old m
  closed_all_popped m = sym (ap (λ x. closed_all x m) is ∙ closed_all-push new i m)

  pub unsettled_popped : (m : Counts) → AreUnsettled old m → IsUnsettled i m × AreUnsettled new (closed i m)
  unsettled_popped m h = AreUnsettled-push new i m (subst (λ x. AreUnsettled x m) is h)
