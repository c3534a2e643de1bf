-- The cells of a store as a list in the order of locks.
use Rattle.std.proofs.Common.{◌≡◌, ◌≢◌, ℕ, zero, suc, ◌<◌, ◌≤◌, Bool, true, false, cond, ◌&&◌, Option, Some, None, List, [], ◌∷◌, ◌++◌, map, length, drop, get_or, refl, sym, ◌∙◌, ap, subst, arith}
use Rattle.std.specs.Prelude.{T}
use Rattle.std.specs.declared.cmp.Ordering.{Ordering}
use Rattle.std.specs.declared.cmp.Ordering.TheVariants.{Less, Equal, Greater}
use Rattle.std.specs.Ordering.{eq_by_cmp, is_eq, is_lt, ordering_reverse}
use Rattle.std.specs.List.{AllByRecursion}
use Rattle.std.specs.FinMap.{get, insert, entries, entries_sorted, get-entries, from_entries, from_entries_push, get-from_entries, same_map, same_entries_map, find, is_sorted}
use Rattle.std.specs.FinMap.Entries.{below_all}
use Rattle.spec_ledger.specs.declared.Kind.TheVariants.{Counter}
use Rattle.spec_ledger.specs.declared.Lock.{Lock}
use Rattle.spec_ledger.specs.declared.CellKey.{CellKey}
use Rattle.spec_ledger.specs.Cells.{Cells, lock_cmp, counter_at, AreCells, IsCounter}
use Rattle.spec_ledger.proofs.Maps.{key_itself, lock_cmp_total, lock_cmp-IsAntisymmetric}
use Rattle.storage.specs.declared.Slot.{Slot}
use Rattle.storage.specs.Slots.{held_in, with_cell}

pub first : (a b : Bool) → T (a && b) → T a
first true b p = tt
first false b p = p

pub second : (a b : Bool) → T (a && b) → T b
second true b p = p
second false b p = absurd p

pub both : (a b : Bool) → T a → T b → T (a && b)
both true b p q = q
both false b p q = p

pub is_less : (o : Ordering) → T (is_lt o) → o ≡ Less
is_less Less p = refl
is_less Equal p = absurd p
is_less Greater p = absurd p

pub is_equal : (o : Ordering) → is_eq o ≡ true → o ≡ Equal
is_equal Less e = cc
is_equal Equal e = refl
is_equal Greater e = cc

pub find_below : (k : Lock) (xs : List (Lock × ℕ)) → T (below_all lock_cmp k xs) → find lock_cmp k xs ≡ None
find_below k [] h = refl
find_below k (x ∷ xs) h = let e : lock_cmp k x.0 ≡ Less = is_less (lock_cmp k x.0) (first _ _ h) in rw e (find_below k xs (second _ _ h))

pub below_with : (k l : Lock) (c : Option ℕ) (xs : List (Lock × ℕ)) → lock_cmp k l ≡ Less → T (below_all lock_cmp k xs) → T (below_all lock_cmp k (with_cell l c xs))
below_with k l None xs e h = h
below_with k l (Some v) xs e h = both (is_lt (lock_cmp k l)) (below_all lock_cmp k xs) (subst (λ o. T (is_lt o)) (sym e) tt) h

pub below_held : (k : Lock) (es : List (Lock × Slot)) → AllByRecursion (λ l. lock_cmp k l ≡ Less) (map (λ e. e.0) es) → T (below_all lock_cmp k (held_in es))
below_held k [] h = tt
below_held k (e ∷ es) h = below_with k e.0 e.1.cell (held_in es) h.0 (below_held k es h.1)

-- ---- gone over entry by entry

greater_than : (k x : Lock) → T (is_lt (lock_cmp x k)) → eq_by_cmp lock_cmp k x ≡ false
greater_than k x h = ap is_eq (lock_cmp_total.antisymm k x ∙ ap ordering_reverse (is_less (lock_cmp x k) h))

below_here : (x k : Lock) (v : ℕ) (xs ys : List (Lock × ℕ)) → T (below_all lock_cmp x (xs ++ (k, v) ∷ ys)) → T (is_lt (lock_cmp x k))
below_here x k v [] ys h = first _ _ h
below_here x k v (e ∷ xs) ys h = below_here x k v xs ys (second _ _ h)

new_before : (xs : List (Lock × ℕ)) (k : Lock) (v : ℕ) (ys : List (Lock × ℕ)) → T (is_sorted lock_cmp (xs ++ (k, v) ∷ ys)) → find lock_cmp k xs ≡ None
new_before [] k v ys h = refl
new_before (x ∷ xs) k v ys h = ap (λ b. cond b (Some x.1) (find lock_cmp k xs)) (greater_than k x.0 (below_here x.0 k v xs ys (first _ _ h))) ∙ new_before xs k v ys (second _ _ h)

found_there : (xs : List (Lock × ℕ)) (k : Lock) (v : ℕ) (ys : List (Lock × ℕ)) → find lock_cmp k xs ≡ None → find lock_cmp k (xs ++ (k, v) ∷ ys) ≡ Some v
found_there [] k v ys h = ap (λ b. cond b (Some v) (find lock_cmp k ys)) (key_itself lock_cmp_total lock_cmp-IsAntisymmetric k)
found_there (x ∷ xs) k v ys h =
    elim (eq_by_cmp lock_cmp k x.0) as (λ b. cond b (Some x.1) (find lock_cmp k xs) ≡ None → cond b (Some x.1) (find lock_cmp k (xs ++ (k, v) ∷ ys)) ≡ Some v) [
      | true ↦ λ e. cc
      | false ↦ λ e. found_there xs k v ys e
    ] h

pub append_nil : (xs : List (Lock × ℕ)) → xs ≡ xs ++ []
append_nil [] = refl
append_nil (x ∷ xs) = ap (λ t. x ∷ t) (append_nil xs)

above_zero : (v : ℕ) → Some v ≢ Some 0 → 0 < v
above_zero zero h = absurd (h refl)
above_zero (suc n) h = omega arith

module _ (m : Cells) (xs : List (Lock × ℕ)) (k : Lock) (v : ℕ) (ys : List (Lock × ℕ)) (all : xs ++ (k, v) ∷ ys ≡ entries m) where
  no_such : find lock_cmp k xs ≡ None
  no_such = new_before xs k v ys (subst (λ es. T (is_sorted lock_cmp es)) (sym all) (entries_sorted m))

  pub copied_next : from_entries {R = lock_cmp} (xs ++ (k, v) ∷ []) ≡ insert (from_entries xs) k v
  copied_next = from_entries_push lock_cmp_total lock_cmp-IsAntisymmetric xs k v no_such

  held_there : get m k ≡ Some v
  held_there = get-entries m k ∙ ap (find lock_cmp k) (sym all) ∙ found_there xs k v ys no_such

  pub copied_condition : AreCells m → k.kind ≡ Counter → 0 < v
  copied_condition are e =
      let place : CellKey = record { contract = k.contract; key = k.key } in
      let same : k ≡ counter_at place = λ i. record { contract = k.contract; kind = e i; key = k.key } in
      above_zero v (subst (λ (x : Option ℕ). IsCounter x) (ap (get m) (sym same) ∙ held_there) (are.counters place)).not_zero

pub copied_all : (m : Cells) (xs : List (Lock × ℕ)) → xs ++ [] ≡ entries m → from_entries xs ≡ m
copied_all m xs all = same_map lock_cmp_total lock_cmp-IsAntisymmetric _ _ (λ q. get-from_entries lock_cmp_total xs q ∙ ap (find lock_cmp q) (append_nil xs ∙ all) ∙ sym (get-entries m q))

pub append_one : (xs : List (Lock × ℕ)) (e : Lock × ℕ) (ys : List (Lock × ℕ)) → xs ++ e ∷ [] ++ ys ≡ xs ++ e ∷ ys
append_one [] e ys = refl
append_one (x ∷ xs) e ys = ap (λ t. x ∷ t) (append_one xs e ys)

pub split_next : (xs : List (Lock × ℕ)) (e : Lock × ℕ) (ys its all : List (Lock × ℕ)) → its ≡ e ∷ ys → xs ++ its ≡ all → xs ++ e ∷ [] ++ ys ≡ all
split_next xs e ys its all i f = append_one xs e ys ∙ ap (λ t. xs ++ t) (sym i) ∙ f

pub length-with : (k : Lock) (c : Option ℕ) (xs : List (Lock × ℕ)) (n : ℕ) → length xs ≤ n → length (with_cell k c xs) ≤ suc n
length-with k None xs n h = omega (arith, h)
length-with k (Some v) xs n h = omega (arith, h)

pub length-held : (es : List (Lock × Slot)) → length (held_in es) ≤ length es
length-held [] = omega arith
length-held (e ∷ es) = length-with e.0 e.1.cell (held_in es) (length es) (length-held es)

-- ---- two lists gone over side by side

cancel : (xs ys zs : List (Lock × ℕ)) → xs ++ ys ≡ xs ++ zs → ys ≡ zs
cancel [] ys zs e = e
cancel (x ∷ xs) ys zs e = cancel xs ys zs (ap (drop 1) e)

module _ (m n : Cells) (xs its others : List (Lock × ℕ)) (a : xs ++ its ≡ entries m) (b : xs ++ others ≡ entries n) where
  tails : m ≡ n → its ≡ others
  tails e = cancel xs its others (a ∙ ap entries e ∙ sym b)

  pub both_end : its ≡ [] → others ≡ [] → m ≡ n
  both_end i j = same_entries_map m n (sym a ∙ ap (λ t. xs ++ t) (i ∙ sym j) ∙ b)

  pub one_ends : (e : Lock × ℕ) (ys : List (Lock × ℕ)) → its ≡ e ∷ ys → others ≡ [] → m ≢ n
  one_ends e ys i j same = absurd (let h = ap length (sym i ∙ tails same ∙ j) in omega (arith, h))

  pub other_ends : (o : Lock × ℕ) (zs : List (Lock × ℕ)) → its ≡ [] → others ≡ o ∷ zs → m ≢ n
  other_ends o zs i j same = absurd (let h = ap length (sym i ∙ tails same ∙ j) in omega (arith, h))

  pub they_differ : (e o : Lock × ℕ) (ys zs : List (Lock × ℕ)) → its ≡ e ∷ ys → others ≡ o ∷ zs → e ≢ o → m ≢ n
  they_differ e o ys zs i j different same = different (ap (λ es. get_or es 0 e) (sym i ∙ tails same ∙ j))
