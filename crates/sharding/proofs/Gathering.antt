-- Cells gone over in the order of their locks, and the cells of shards put together.
use Rattle.std.proofs.Common.{◌≡◌, ℕ, Bool, true, false, cond, ◌&&◌, Option, Some, None, List, [], ◌∷◌, ◌++◌, refl, sym, ◌∙◌, ap, subst}
use Rattle.std.specs.Prelude.{T}
use Rattle.std.specs.declared.cmp.Ordering.{Ordering}
use Rattle.std.specs.declared.cmp.Ordering.TheVariants.{Less, Equal, Greater}
use Rattle.std.specs.Ordering.{eq_by_cmp, is_eq, is_lt, ordering_reverse}
use Rattle.std.specs.List.{AllByRecursion}
use Rattle.std.specs.FinMap.{get, insert, entries, entries_sorted, get-entries, get-empty, get-insert, from_entries, find, is_sorted}
use Rattle.std.specs.FinMap.Entries.{below_all}
use Rattle.spec_ledger.specs.declared.Lock.{Lock}
use Rattle.spec_ledger.specs.Cells.{Cells, lock_cmp}
use Rattle.spec_ledger.proofs.Maps.{is_key, key_itself, lock_cmp_total, lock_cmp-IsAntisymmetric}
use Rattle.storage.proofs.Listed.{copied_next, copied_all}
use Rattle.spec_ledger.specs.Shards.{AreCellsOf}

first : (a b : Bool) → T (a && b) → T a
first true b p = tt
first false b p = p

second : (a b : Bool) → T (a && b) → T b
second true b p = p
second false b p = absurd p

is_less : (o : Ordering) → T (is_lt o) → o ≡ Less
is_less Less p = refl
is_less Equal p = absurd p
is_less Greater p = absurd p

greater_than : (k x : Lock) → T (is_lt (lock_cmp x k)) → eq_by_cmp lock_cmp k x ≡ false
greater_than k x h = ap is_eq (lock_cmp_total.antisymm k x ∙ ap ordering_reverse (is_less (lock_cmp x k) h))

below_here : (x k : Lock) (v : ℕ) (xs ys : List (Lock × ℕ)) → T (below_all lock_cmp x (xs ++ (k, v) ∷ ys)) → T (is_lt (lock_cmp x k))
below_here x k v [] ys h = first _ _ h
below_here x k v (e ∷ xs) ys h = below_here x k v xs ys (second _ _ h)

found_sorted : (xs : List (Lock × ℕ)) (k : Lock) (v : ℕ) (ys : List (Lock × ℕ)) → T (is_sorted lock_cmp (xs ++ (k, v) ∷ ys)) → find lock_cmp k (xs ++ (k, v) ∷ ys) ≡ Some v
found_sorted [] k v ys h = ap (λ b. cond b (Some v) (find lock_cmp k ys)) (key_itself lock_cmp_total lock_cmp-IsAntisymmetric k)
found_sorted (x ∷ xs) k v ys h = ap (λ b. cond b (Some x.1) (find lock_cmp k (xs ++ (k, v) ∷ ys))) (greater_than k x.0 (below_here x.0 k v xs ys (first _ _ h))) ∙ found_sorted xs k v ys (second _ _ h)

-- a cell of the list is a cell of the map
pub held_there : (m : Cells) (xs : List (Lock × ℕ)) (k : Lock) (v : ℕ) (ys : List (Lock × ℕ)) → xs ++ (k, v) ∷ ys ≡ entries m → get m k ≡ Some v
held_there m xs k v ys all = get-entries m k ∙ ap (find lock_cmp k) (sym all) ∙ found_sorted xs k v ys (subst (λ es. T (is_sorted lock_cmp es)) (sym all) (entries_sorted m))

append_nil : (xs : List (Lock × ℕ)) → xs ≡ xs ++ []
append_nil [] = refl
append_nil (x ∷ xs) = ap (λ t. x ∷ t) (append_nil xs)

module _ (home : Lock → ℕ) (i : ℕ) where
  -- ---- cells of a shard among others

  -- a cell at a lock of the shard is one of others
  abbrev pub IsAmong : Cells → Lock × ℕ → Type 0
  IsAmong others e = home e.0 ≡ i → get others e.0 ≡ Some e.1

  abbrev pub AreAmong : Cells → Cells → Type 0
  AreAmong cells others = (lock : Lock) (value : ℕ) → home lock ≡ i → get cells lock ≡ Some value → get others lock ≡ Some value

  pub among_more : (others : Cells) (xs : List (Lock × ℕ)) (e : Lock × ℕ) → AllByRecursion (IsAmong others) xs → IsAmong others e → AllByRecursion (IsAmong others) (xs ++ e ∷ [])
  among_more others [] e h is = (is, tt)
  among_more others (x ∷ xs) e h is = (h.0, among_more others xs e h.1 is)

  among_found : (others : Cells) (xs : List (Lock × ℕ)) (q : Lock) (v : ℕ) → AllByRecursion (IsAmong others) xs → find lock_cmp q xs ≡ Some v → home q ≡ i → get others q ≡ Some v
  among_found others [] q v h found here = absurd (cc found)
  among_found others (x ∷ xs) q v h found here =
      elim (eq_by_cmp lock_cmp q x.0) as (λ b. eq_by_cmp lock_cmp q x.0 ≡ b → cond b (Some x.1) (find lock_cmp q xs) ≡ Some v → get others q ≡ Some v) [
        | true ↦ λ e is. let same : q ≡ x.0 = is_key lock_cmp_total lock_cmp-IsAntisymmetric q x.0 e in ap (get others) same ∙ (h.0 (sym (ap home same) ∙ here) ∙ is)
        | false ↦ λ e is. among_found others xs q v h.1 is here
      ] refl found

  pub all_among : (cells others : Cells) (xs : List (Lock × ℕ)) → xs ++ [] ≡ entries cells → AllByRecursion (IsAmong others) xs → AreAmong cells others
  all_among cells others xs all h q v here is = among_found others xs q v h (ap (find lock_cmp q) (append_nil xs ∙ all) ∙ sym (get-entries cells q) ∙ is) here

  pub not_among : (cells others : Cells) (xs : List (Lock × ℕ)) (k : Lock) (v : ℕ) (ys : List (Lock × ℕ)) → xs ++ (k, v) ∷ ys ≡ entries cells → home k ≡ i → ¬ (get others k ≡ Some v) → ¬ (AreAmong cells others)
  not_among cells others xs k v ys all here lacks among = lacks (among k v here (held_there cells xs k v ys all))

  same_cell : (a b : Option ℕ) → ((v : ℕ) → a ≡ Some v → b ≡ Some v) → ((v : ℕ) → b ≡ Some v → a ≡ Some v) → b ≡ a
  same_cell None None f g = refl
  same_cell (Some v) b f g = f v refl
  same_cell None (Some v) f g = sym (g v refl)

  -- a shard's cells are those of all just where each is among the other
  pub cells_of : (all own : Cells) → AreAmong all own → AreAmong own all → AreCellsOf home i all own
  cells_of all own there back lock here = same_cell (get all lock) (get own lock) (λ v. there lock v here) (λ v. back lock v here)

  pub there_of : (all own : Cells) → AreCellsOf home i all own → AreAmong all own
  there_of all own same lock v here is = same lock here ∙ is

  pub back_of : (all own : Cells) → AreCellsOf home i all own → AreAmong own all
  back_of all own same lock v here is = sym (same lock here) ∙ is

  -- ---- a shard's cells put among those of others

  -- at the shard's locks the cells gone over are there, elsewhere those from before
  pub record AreGathered (before : Cells) (xs : List (Lock × ℕ)) (all : Cells) : Type 0 where
    pub own : (lock : Lock) → home lock ≡ i → get all lock ≡ get (from_entries {R = lock_cmp} xs) lock
    pub others : (lock : Lock) → ¬ (home lock ≡ i) → get all lock ≡ get before lock

  apart : (q k : Lock) → ¬ (q ≡ k) → eq_by_cmp lock_cmp q k ≡ false
  apart q k differ =
      elim (eq_by_cmp lock_cmp q k) as (λ b. eq_by_cmp lock_cmp q k ≡ b → b ≡ false) [
        | true ↦ λ e. absurd (differ (is_key lock_cmp_total lock_cmp-IsAntisymmetric q k e))
        | false ↦ λ _. refl
      ] refl

  with_other : (m : Cells) (k q : Lock) (v : ℕ) → ¬ (q ≡ k) → get (insert m k v) q ≡ get m q
  with_other m k q v differ = get-insert lock_cmp_total m k v q ∙ ap (λ b. cond b (Some v) (get m q)) (apart q k differ)

  pub gathered_none : (before : Cells) → ((lock : Lock) → home lock ≡ i → get before lock ≡ None) → AreGathered before [] before
  gathered_none before free = record { own = λ q here. free q here ∙ sym (get-empty lock_cmp q); others = λ q away. refl }

  module _ (before own : Cells) (xs : List (Lock × ℕ)) (k : Lock) (v : ℕ) (ys : List (Lock × ℕ)) (over : xs ++ (k, v) ∷ ys ≡ entries own) where
    pub gathered_here : (all new : Cells) → AreGathered before xs all → new ≡ insert all k v → home k ≡ i → AreGathered before (xs ++ (k, v) ∷ []) new
    gathered_here all new h is here = record {
      own = λ q at. ap (λ m. get m q) is ∙ get-insert lock_cmp_total all k v q ∙ ap (λ c. cond (eq_by_cmp lock_cmp q k) (Some v) c) (h.own q at)
          ∙ sym (ap (λ m. get m q) (copied_next own xs k v ys over) ∙ get-insert lock_cmp_total (from_entries xs) k v q);
      others = λ q away. ap (λ m. get m q) is ∙ with_other all k q v (λ same. away (ap home same ∙ here)) ∙ h.others q away;
    }

    pub gathered_away : (all : Cells) → AreGathered before xs all → ¬ (home k ≡ i) → AreGathered before (xs ++ (k, v) ∷ []) all
    gathered_away all h away = record {
      own = λ q at. h.own q at ∙ sym (ap (λ m. get m q) (copied_next own xs k v ys over) ∙ with_other (from_entries xs) k q v (λ same. away (sym (ap home same) ∙ at)));
      others = h.others;
    }

  pub gathered_all : (before own : Cells) (xs : List (Lock × ℕ)) (all : Cells) → xs ++ [] ≡ entries own → AreGathered before xs all → (lock : Lock) → home lock ≡ i → get all lock ≡ get own lock
  gathered_all before own xs all over h q at = h.own q at ∙ ap (λ m. get m q) (copied_all own xs over)
