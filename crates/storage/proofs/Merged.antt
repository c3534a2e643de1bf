-- The cells of a base and of the slots over it, as one list in the order of locks.
use Rattle.std.proofs.Common.{◌≡◌, ℕ, suc, ◌+◌, ◌==◌, ◌<◌, ◌≤◌, ◌^◌, Bool, true, false, cond, Option, Some, None, List, [], ◌∷◌, ◌++◌, map, length, refl, sym, ◌∙◌, ap, subst, arith}
use Rattle.std.specs.Prelude.{T}
use Rattle.std.specs.declared.cmp.Ordering.TheVariants.{Less, Equal, Greater}
use Rattle.std.specs.Ordering.{eq_by_cmp, is_eq, is_lt, ordering_reverse}
use Rattle.std.specs.List.{AllByRecursion}
use Rattle.std.specs.List.Sorted.{IsStrictlySortedBy}
use Rattle.std.specs.Map.{lookup}
use Rattle.std.specs.FinMap.{insert, entries, entries_sorted, get-entries, from_sorted, get-from_sorted, from_entries, get-from_entries, same_map, find, is_sorted}
use Rattle.std.proofs.lemmas.Bool.{eqb-true}
use Rattle.std.specs.FinMap.Entries.{below_all, by_order, same_entries}
use Rattle.spec_ledger.specs.declared.Lock.{Lock}
use Rattle.spec_ledger.specs.Cells.{lock_cmp, number, AreCells, IsOfItsType, AreOfTheirTypes}
use Rattle.spec_ledger.proofs.Maps.{is_key, lock_cmp_total, lock_cmp-IsAntisymmetric}
use Rattle.spec_ledger.proofs.Types.{types-empty}
use Rattle.spec_ledger.proofs.Ops.{AreCells-empty}
use Rattle.storage.specs.declared.Slot.{Slot}
use Rattle.storage.specs.Slots.{cells_in, cell_in, with_cell, held_in, merged_at, merged, with_settled, AreHeld}
use Rattle.storage.proofs.Listed.{append_one, first, second, both, is_less, find_below, below_with, below_held, length-with, length-held}
use Rattle.storage.proofs.Slots.{cell_of_cond, get-cells_in, AreCells-inserted, types_written}

abbrev locks_of : List (Lock × Slot) → List Lock
locks_of es = map (λ e. e.0) es

-- a lock is below each of these
abbrev IsBelow : Lock → List Lock → Type 0
IsBelow k ks = AllByRecursion (λ l. lock_cmp k l ≡ Less) ks

abbrev Rise : List (Lock × Slot) → Type 0
Rise es = IsStrictlySortedBy lock_cmp (locks_of es)

-- what slots have at a lock
abbrev slot_in : Lock → List (Lock × Slot) → Option Slot
slot_in q es = lookup (λ k. is_eq (lock_cmp q k)) es

below_them : (x y : Lock) (ks : List Lock) → lock_cmp x y ≡ Less → IsBelow y ks → IsBelow x ks
below_them x y [] p h = tt
below_them x y (k ∷ ks) p h = (lock_cmp_total.trans x y k p h.0, below_them x y ks p h.1)

below_cells : (x y : Lock) (bs : List (Lock × ℕ)) → lock_cmp x y ≡ Less → T (below_all lock_cmp y bs) → T (below_all lock_cmp x bs)
below_cells x y [] p h = tt
below_cells x y (b ∷ bs) p h =
    both (is_lt (lock_cmp x b.0)) (below_all lock_cmp x bs) (subst (λ o. T (is_lt o)) (sym (lock_cmp_total.trans x y b.0 p (is_less (lock_cmp y b.0) (first _ _ h)))) tt) (below_cells x y bs p (second _ _ h))

less_so : (x y : Lock) → lock_cmp x y ≡ Less → T (is_lt (lock_cmp x y))
less_so x y p = subst (λ o. T (is_lt o)) (sym p) tt

turned : (x y : Lock) → lock_cmp x y ≡ Greater → lock_cmp y x ≡ Less
turned x y p = lock_cmp_total.antisymm y x ∙ ap ordering_reverse p

-- ---- it rises

below_merged_at : (k : Lock) (b : Lock × ℕ) (rest : List (Lock × Slot) → List (Lock × ℕ)) → ((fs : List (Lock × Slot)) → IsBelow k (locks_of fs) → T (below_all lock_cmp k (rest fs))) → T (is_lt (lock_cmp k b.0))
    → (es : List (Lock × Slot)) → IsBelow k (locks_of es) → T (below_all lock_cmp k (merged_at b rest es))
below_merged_at k b rest under less [] h = both (is_lt (lock_cmp k b.0)) (below_all lock_cmp k (rest [])) less (under [] tt)
below_merged_at k b rest under less (e ∷ es) h =
    elim (lock_cmp b.0 e.0) as (λ r. T (below_all lock_cmp k (by_order r (b ∷ rest (e ∷ es)) (with_cell e.0 e.1.cell (rest es)) (with_cell e.0 e.1.cell (merged_at b rest es))))) [
      | Less ↦ both (is_lt (lock_cmp k b.0)) (below_all lock_cmp k (rest (e ∷ es))) less (under (e ∷ es) h)
      | Equal ↦ below_with k e.0 e.1.cell (rest es) h.0 (under es h.1)
      | Greater ↦ below_with k e.0 e.1.cell (merged_at b rest es) h.0 (below_merged_at k b rest under less es h.1)
    ]

below_merged : (k : Lock) (bs : List (Lock × ℕ)) (es : List (Lock × Slot)) → T (below_all lock_cmp k bs) → IsBelow k (locks_of es) → T (below_all lock_cmp k (merged bs es))
below_merged k [] es under h = below_held k es h
below_merged k (b ∷ bs) es under h = below_merged_at k b (merged bs) (λ fs g. below_merged k bs fs (second _ _ under) g) (first _ _ under) es h

sorted_with : (k : Lock) (c : Option ℕ) (xs : List (Lock × ℕ)) → T (below_all lock_cmp k xs) → T (is_sorted lock_cmp xs) → T (is_sorted lock_cmp (with_cell k c xs))
sorted_with k None xs under sorted = sorted
sorted_with k (Some v) xs under sorted = both (below_all lock_cmp k xs) (is_sorted lock_cmp xs) under sorted

sorted_held : (es : List (Lock × Slot)) → Rise es → T (is_sorted lock_cmp (held_in es))
unfolding IsStrictlySortedBy
sorted_held [] h = tt
sorted_held (e ∷ es) h = sorted_with e.0 e.1.cell (held_in es) (below_held e.0 es h.0) (sorted_held es h.1)

sorted_merged_at : (b : Lock × ℕ) (bs : List (Lock × ℕ)) → T (below_all lock_cmp b.0 bs) → ((fs : List (Lock × Slot)) → Rise fs → T (is_sorted lock_cmp (merged bs fs)))
    → (es : List (Lock × Slot)) → Rise es → T (is_sorted lock_cmp (merged_at b (merged bs) es))
unfolding IsStrictlySortedBy
sorted_merged_at b bs under rest [] h = both (below_all lock_cmp b.0 (merged bs [])) (is_sorted lock_cmp (merged bs [])) (below_merged b.0 bs [] under tt) (rest [] tt)
sorted_merged_at b bs under rest (e ∷ es) h =
    elim (lock_cmp b.0 e.0) as (λ r. lock_cmp b.0 e.0 ≡ r → T (is_sorted lock_cmp (by_order r (b ∷ merged bs (e ∷ es)) (with_cell e.0 e.1.cell (merged bs es)) (with_cell e.0 e.1.cell (merged_at b (merged bs) es))))) [
      | Less ↦ λ p. both (below_all lock_cmp b.0 (merged bs (e ∷ es))) (is_sorted lock_cmp (merged bs (e ∷ es))) (below_merged b.0 bs (e ∷ es) under (p, below_them b.0 e.0 (locks_of es) p h.0)) (rest (e ∷ es) h)
      | Equal ↦ λ p.
          sorted_with e.0 e.1.cell (merged bs es) (below_merged e.0 bs es (subst (λ k. T (below_all lock_cmp k bs)) (lock_cmp-IsAntisymmetric b.0 e.0 p) under) h.0) (rest es h.1)
      | Greater ↦ λ p.
          let above = turned b.0 e.0 p in
          sorted_with e.0 e.1.cell (merged_at b (merged bs) es)
          (below_merged e.0 (b ∷ bs) es (both (is_lt (lock_cmp e.0 b.0)) (below_all lock_cmp e.0 bs) (less_so e.0 b.0 above) (below_cells e.0 b.0 bs above under)) h.0) (sorted_merged_at b bs under rest es h.1)
    ] refl

pub sorted_merged : (bs : List (Lock × ℕ)) (es : List (Lock × Slot)) → T (is_sorted lock_cmp bs) → IsStrictlySortedBy lock_cmp (map (λ e. e.0) es) → T (is_sorted lock_cmp (merged bs es))
sorted_merged [] es sorted h = sorted_held es h
sorted_merged (b ∷ bs) es sorted h = sorted_merged_at b bs (first _ _ sorted) (λ fs g. sorted_merged bs fs (second _ _ sorted) g) es h

-- ---- what is found in it

find_with : (q k : Lock) (c : Option ℕ) (xs : List (Lock × ℕ)) → find lock_cmp k xs ≡ None → find lock_cmp q (with_cell k c xs) ≡ cond (eq_by_cmp lock_cmp q k) c (find lock_cmp q xs)
find_with q k None xs none =
    elim (eq_by_cmp lock_cmp q k) as (λ b. eq_by_cmp lock_cmp q k ≡ b → find lock_cmp q xs ≡ cond b None (find lock_cmp q xs)) [
      | true ↦ λ t. ap (λ l. find lock_cmp l xs) (is_key lock_cmp_total lock_cmp-IsAntisymmetric q k t) ∙ none
      | false ↦ λ _. refl
    ] refl
find_with q k (Some v) xs none = refl

no_slot : (k : Lock) (es : List (Lock × Slot)) → IsBelow k (locks_of es) → slot_in k es ≡ None
no_slot k [] h = refl
no_slot k (e ∷ es) h = ap (λ r. cond (is_eq r) (Some e.1) (slot_in k es)) h.0 ∙ no_slot k es h.1

find_held : (q : Lock) (es : List (Lock × Slot)) → Rise es → find lock_cmp q (held_in es) ≡ cell_in None (slot_in q es)
unfolding IsStrictlySortedBy
find_held q [] h = refl
find_held q (e ∷ es) h =
    find_with q e.0 e.1.cell (held_in es) (find_below e.0 (held_in es) (below_held e.0 es h.0))
    ∙ ap (cond (eq_by_cmp lock_cmp q e.0) e.1.cell) (find_held q es h.1)
    ∙ cell_of_cond None (eq_by_cmp lock_cmp q e.0) e.1 (slot_in q es)

-- a cell of the base in front
before_slots : (b : Bool) (x : ℕ) (below : Option ℕ) (o : Option Slot) → (b ≡ true → o ≡ None) → cond b (Some x) (cell_in below o) ≡ cell_in (cond b (Some x) below) o
before_slots true x below o none = sym (ap (cell_in (Some x)) (none refl))
before_slots false x below o none = refl

-- a slot in the place of a cell of the base
in_place : (b : Bool) (x : ℕ) (below : Option ℕ) (s : Slot) (o : Option Slot) → cond b s.cell (cell_in below o) ≡ cell_in (cond b (Some x) below) (cond b (Some s) o)
in_place true x below s o = refl
in_place false x below s o = refl

find_merged_at : (q : Lock) (b : Lock × ℕ) (bs : List (Lock × ℕ)) → T (below_all lock_cmp b.0 bs) → ((fs : List (Lock × Slot)) → Rise fs → find lock_cmp q (merged bs fs) ≡ cell_in (find lock_cmp q bs) (slot_in q fs))
    → (es : List (Lock × Slot)) → Rise es → find lock_cmp q (merged_at b (merged bs) es) ≡ cell_in (find lock_cmp q (b ∷ bs)) (slot_in q es)
unfolding IsStrictlySortedBy
find_merged_at q b bs under rest [] h = ap (cond (eq_by_cmp lock_cmp q b.0) (Some b.1)) (rest [] tt)
find_merged_at q b bs under rest (e ∷ es) h =
    elim (lock_cmp b.0 e.0) as (λ r. lock_cmp b.0 e.0 ≡ r
    → find lock_cmp q (by_order r (b ∷ merged bs (e ∷ es)) (with_cell e.0 e.1.cell (merged bs es)) (with_cell e.0 e.1.cell (merged_at b (merged bs) es)))
    ≡ cell_in (find lock_cmp q (b ∷ bs)) (slot_in q (e ∷ es))) [
      | Less ↦ λ p.
          ap (cond (eq_by_cmp lock_cmp q b.0) (Some b.1)) (rest (e ∷ es) h)
          ∙ before_slots (eq_by_cmp lock_cmp q b.0) b.1 (find lock_cmp q bs) (slot_in q (e ∷ es)) (λ t.
          ap (λ k. slot_in k (e ∷ es)) (is_key lock_cmp_total lock_cmp-IsAntisymmetric q b.0 t) ∙ no_slot b.0 (e ∷ es) (p, below_them b.0 e.0 (locks_of es) p h.0))
      | Equal ↦ λ p.
          let same = lock_cmp-IsAntisymmetric b.0 e.0 p in
          find_with q e.0 e.1.cell (merged bs es) (find_below e.0 (merged bs es) (below_merged e.0 bs es (subst (λ k. T (below_all lock_cmp k bs)) same under) h.0))
          ∙ ap (cond (eq_by_cmp lock_cmp q e.0) e.1.cell) (rest es h.1)
          ∙ in_place (eq_by_cmp lock_cmp q e.0) b.1 (find lock_cmp q bs) e.1 (slot_in q es)
          ∙ ap (λ k. cell_in (cond (eq_by_cmp lock_cmp q k) (Some b.1) (find lock_cmp q bs)) (slot_in q (e ∷ es))) (sym same)
      | Greater ↦ λ p.
          let above = turned b.0 e.0 p in
          let lower = below_merged e.0 (b ∷ bs) es (both (is_lt (lock_cmp e.0 b.0)) (below_all lock_cmp e.0 bs) (less_so e.0 b.0 above) (below_cells e.0 b.0 bs above under)) h.0 in
          find_with q e.0 e.1.cell (merged_at b (merged bs) es) (find_below e.0 (merged_at b (merged bs) es) lower)
          ∙ ap (cond (eq_by_cmp lock_cmp q e.0) e.1.cell) (find_merged_at q b bs under rest es h.1)
          ∙ cell_of_cond (find lock_cmp q (b ∷ bs)) (eq_by_cmp lock_cmp q e.0) e.1 (slot_in q es)
    ] refl

find_merged : (q : Lock) (bs : List (Lock × ℕ)) (es : List (Lock × Slot)) → T (is_sorted lock_cmp bs) → Rise es → find lock_cmp q (merged bs es) ≡ cell_in (find lock_cmp q bs) (slot_in q es)
find_merged q [] es sorted h = find_held q es h
find_merged q (b ∷ bs) es sorted h = find_merged_at q b bs (first _ _ sorted) (λ fs g. find_merged q bs fs (second _ _ sorted) g) es h

pub merged_entries : (bs : List (Lock × ℕ)) (es : List (Lock × Slot)) → T (is_sorted lock_cmp bs) → IsStrictlySortedBy lock_cmp (map (λ e. e.0) es) → merged bs es ≡ entries (cells_in (from_sorted bs) es)
merged_entries bs es sorted h =
    same_entries lock_cmp lock_cmp_total lock_cmp-IsAntisymmetric (merged bs es) (entries (cells_in (from_sorted bs) es)) (sorted_merged bs es sorted h) (entries_sorted (cells_in (from_sorted bs) es)) (λ q.
    find_merged q bs es sorted h
    ∙ ap (λ below. cell_in below (slot_in q es)) (sym (get-from_sorted lock_cmp bs q sorted))
    ∙ sym (get-cells_in (from_sorted bs) es q)
    ∙ get-entries (cells_in (from_sorted bs) es) q)

-- ---- how long it is

length-merged_at : (b : Lock × ℕ) (bs : List (Lock × ℕ)) → ((fs : List (Lock × Slot)) → length (merged bs fs) ≤ length bs + length fs) → (es : List (Lock × Slot)) → length (merged_at b (merged bs) es) ≤ suc (length bs) + length es
length-merged_at b bs rest [] = let r = rest [] in omega (arith, r)
length-merged_at b bs rest (e ∷ es) =
    elim (lock_cmp b.0 e.0) as (λ r. length (by_order r (b ∷ merged bs (e ∷ es)) (with_cell e.0 e.1.cell (merged bs es)) (with_cell e.0 e.1.cell (merged_at b (merged bs) es))) ≤ suc (length bs) + suc (length es)) [
      | Less ↦ let r = rest (e ∷ es) in omega (arith, r)
      | Equal ↦ let r = length-with e.0 e.1.cell (merged bs es) (length bs + length es) (rest es) in omega (arith, r)
      | Greater ↦ let r = length-with e.0 e.1.cell (merged_at b (merged bs) es) (suc (length bs) + length es) (length-merged_at b bs rest es) in omega (arith, r)
    ]

length-merged : (bs : List (Lock × ℕ)) (es : List (Lock × Slot)) → length (merged bs es) ≤ length bs + length es
length-merged [] es = let h = length-held es in omega (arith, h)
length-merged (b ∷ bs) es = length-merged_at b bs (length-merged bs) es

pub merged_fits : (bs : List (Lock × ℕ)) (its es : List (Lock × Slot)) → its ≡ es → length bs + length es < 2 ^ 63 → length (merged bs its) < 2 ^ 63
merged_fits bs its es e few = subst (λ xs. length (merged bs xs) < 2 ^ 63) (sym e) (let l = length-merged bs es in omega (arith, l, few))

-- ---- two lists as one

pub merged_none : (bs : List (Lock × ℕ)) → merged bs [] ≡ bs
merged_none [] = refl
merged_none (b ∷ bs) = ap (λ xs. b ∷ xs) (merged_none bs)

pub held_settled : (os : List (Lock × ℕ)) → held_in (map with_settled os) ≡ os
held_settled [] = refl
held_settled (o ∷ os) = ap (λ xs. o ∷ xs) (held_settled os)

pub none_left : (xs : List (Lock × ℕ)) → length xs < 1 → xs ≡ []
none_left [] less = refl
none_left (x ∷ xs) less = absurd (omega (arith, less))

pub none_of : (xs : List (Lock × ℕ)) (n : ℕ) → n ≡ length xs → (n == 0) ≡ true → xs ≡ []
none_of xs n size none = let e = eqb-true n 0 none in none_left xs (omega (arith, size, e))

-- where one list is empty, the other is the merge
pub first_alone : (bs os : List (Lock × ℕ)) → os ≡ [] → bs ≡ merged bs (map with_settled os)
first_alone bs os none = sym (ap (λ xs. merged bs (map with_settled xs)) none ∙ merged_none bs)

pub second_alone : (bs os : List (Lock × ℕ)) → bs ≡ [] → os ≡ merged bs (map with_settled os)
second_alone bs os none = sym (ap (λ xs. merged xs (map with_settled os)) none ∙ held_settled os)

-- a cell more of the merge: done stands before it and all behind it
module _ (done all : List (Lock × ℕ)) (b o : Lock × ℕ) (bs os total : List (Lock × ℕ)) where
  pub step_less : lock_cmp b.0 o.0 ≡ Less → all ≡ done ++ b ∷ [] → done ++ merged (b ∷ bs) (map with_settled (o ∷ os)) ≡ total → all ++ merged bs (map with_settled (o ∷ os)) ≡ total
  step_less p pushed so_far =
      ap (λ xs. xs ++ merged bs (map with_settled (o ∷ os))) pushed
      ∙ append_one done b (merged bs (map with_settled (o ∷ os)))
      ∙ ap (λ r. done ++ by_order r (b ∷ merged bs (map with_settled (o ∷ os))) (o ∷ merged bs (map with_settled os)) (o ∷ merged (b ∷ bs) (map with_settled os))) (sym p)
      ∙ so_far

  pub step_equal : lock_cmp b.0 o.0 ≡ Equal → all ≡ done ++ o ∷ [] → done ++ merged (b ∷ bs) (map with_settled (o ∷ os)) ≡ total → all ++ merged bs (map with_settled os) ≡ total
  step_equal p pushed so_far =
      ap (λ xs. xs ++ merged bs (map with_settled os)) pushed
      ∙ append_one done o (merged bs (map with_settled os))
      ∙ ap (λ r. done ++ by_order r (b ∷ merged bs (map with_settled (o ∷ os))) (o ∷ merged bs (map with_settled os)) (o ∷ merged (b ∷ bs) (map with_settled os))) (sym p)
      ∙ so_far

  pub step_greater : lock_cmp b.0 o.0 ≡ Greater → all ≡ done ++ o ∷ [] → done ++ merged (b ∷ bs) (map with_settled (o ∷ os)) ≡ total → all ++ merged (b ∷ bs) (map with_settled os) ≡ total
  step_greater p pushed so_far =
      ap (λ xs. xs ++ merged (b ∷ bs) (map with_settled os)) pushed
      ∙ append_one done o (merged (b ∷ bs) (map with_settled os))
      ∙ ap (λ r. done ++ by_order r (b ∷ merged bs (map with_settled (o ∷ os))) (o ∷ merged bs (map with_settled os)) (o ∷ merged (b ∷ bs) (map with_settled os))) (sym p)
      ∙ so_far

-- where one list is used up, the other is left
pub end_first : (done all os total : List (Lock × ℕ)) → all ≡ done ++ os → done ++ merged [] (map with_settled os) ≡ total → all ≡ total
end_first done all os total pushed so_far = pushed ∙ ap (λ xs. done ++ xs) (sym (held_settled os)) ∙ so_far

pub end_second : (done all bs total : List (Lock × ℕ)) → all ≡ done ++ bs → done ++ merged bs (map with_settled []) ≡ total → all ≡ total
end_second done all bs total pushed so_far = pushed ∙ ap (λ xs. done ++ xs) (sym (merged_none bs)) ∙ so_far

below_settled : (k : Lock) (os : List (Lock × ℕ)) → T (below_all lock_cmp k os) → IsBelow k (locks_of (map with_settled os))
below_settled k [] h = tt
below_settled k (o ∷ os) h = (is_less (lock_cmp k o.0) (first _ _ h), below_settled k os (second _ _ h))

rise_settled : (os : List (Lock × ℕ)) → T (is_sorted lock_cmp os) → Rise (map with_settled os)
unfolding IsStrictlySortedBy
rise_settled [] h = tt
rise_settled (o ∷ os) h = (below_settled o.0 os (first _ _ h), rise_settled os (second _ _ h))

found_over : (q : Lock) (os bs : List (Lock × ℕ)) → cell_in (find lock_cmp q bs) (slot_in q (map with_settled os)) ≡ find lock_cmp q (os ++ bs)
found_over q [] bs = refl
found_over q (o ∷ os) bs =
    sym (cell_of_cond (find lock_cmp q bs) (eq_by_cmp lock_cmp q o.0) (with_settled o).1 (slot_in q (map with_settled os)))
    ∙ ap (cond (eq_by_cmp lock_cmp q o.0) (Some o.1)) (found_over q os bs)

cells_kept : (cs : List (Lock × ℕ)) → AreHeld cs → AreCells (from_entries cs)
cells_kept [] h = AreCells-empty
cells_kept (c ∷ cs) h = AreCells-inserted (from_entries cs) (insert (from_entries cs) c.0 c.1) c.0 c.1 refl h.1 h.0.number (cells_kept cs h.2)

same_number : (l : Lock) (x v : ℕ) → Some x ≡ Some v → IsOfItsType l x → IsOfItsType l v
same_number l x v e is = subst (IsOfItsType l) (ap number e) is

types_kept : (cs : List (Lock × ℕ)) → AreHeld cs → AreOfTheirTypes (from_entries cs)
types_kept [] h = types-empty
types_kept (c ∷ cs) h = types_written (from_entries cs) (insert (from_entries cs) c.0 c.1) c.0 (Some c.1) refl (λ v e. same_number c.0 c.1 v e h.0) (types_kept cs h.2)

held_both : (os bs : List (Lock × ℕ)) → AreHeld os → AreHeld bs → AreHeld (os ++ bs)
held_both [] bs h g = g
held_both (o ∷ os) bs h g = (h.0, h.1, held_both os bs h.2 g)

module _ (all os bs : List (Lock × ℕ)) (is : all ≡ merged bs (map with_settled os)) (over : T (is_sorted lock_cmp os)) (under : T (is_sorted lock_cmp bs)) where
  pub one_sorted : T (is_sorted lock_cmp all)
  one_sorted = subst (λ xs. T (is_sorted lock_cmp xs)) (sym is) (sorted_merged bs (map with_settled os) under (rise_settled os over))

  pub one_map : from_sorted all ≡ from_entries {R = lock_cmp} (os ++ bs)
  one_map = same_map lock_cmp_total lock_cmp-IsAntisymmetric _ _ (λ q.
      get-from_sorted lock_cmp all q one_sorted
      ∙ ap (find lock_cmp q) is
      ∙ find_merged q bs (map with_settled os) under (rise_settled os over)
      ∙ found_over q os bs
      ∙ sym (get-from_entries lock_cmp_total (os ++ bs) q))

  pub one_kept : AreHeld os → AreHeld bs → AreCells (from_sorted all)
  one_kept h g = subst AreCells (sym one_map) (cells_kept (os ++ bs) (held_both os bs h g))

  pub one_typed : AreHeld os → AreHeld bs → AreOfTheirTypes (from_sorted all)
  one_typed h g = subst AreOfTheirTypes (sym one_map) (types_kept (os ++ bs) (held_both os bs h g))
