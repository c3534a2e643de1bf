-- What slots hold, key by key.
use Rattle.std.proofs.Common.{◌≡◌, ◌≢◌, ℕ, zero, suc, ◌+◌, ◌-◌, ◌<◌, ◌≤◌, ◌^◌, arith, Bool, true, false, cond, if◌then◌else◌, length, Option, Some, None, Result, Ok, Err, OnErr, unwrap_or, List, [], ◌∷◌, refl, sym, ◌∙◌, ap, subst}
use Rattle.std.specs.Option.{UnwrapsOrElse}
use Rattle.std.specs.Ordering.{eq_by_cmp, is_eq}
use Rattle.std.specs.Map.{lookup}
use Rattle.std.specs.Cmp.{eq_by_cmp_equiv}
use Rattle.std.specs.FinMap as finite
use Rattle.std.specs.BTreeMap as tree
use Rattle.std.specs.BTreeMap.{BTreeMap}
use Rattle.spec_ledger.specs.declared.Lock.{Lock}
use Rattle.spec_ledger.specs.declared.CellKey.{CellKey}
use Rattle.spec_ledger.specs.declared.Op.{Op}
use Rattle.spec_ledger.specs.declared.Op.TheVariants.{Get, Has, Put, Del, Add, Total}
use Rattle.spec_ledger.specs.declared.Inverse.{Inverse}
use Rattle.spec_ledger.specs.declared.Inverse.TheVariants.{Keep, Subtract, Restore}
use Rattle.spec_ledger.specs.Cells.{Cells, lock_cmp, lock_of, counter, set_at, update, number, cells_after, cell_after, inverse_of, is_reading, map_at, counter_at, subtracted, AreCells, IsCounter, IsOfItsType, AreOfTheirTypes}
use Rattle.spec_ledger.proofs.Types.{types-set_at}
use Rattle.spec_ledger.proofs.Maps.{update_same, is_key, key_itself, get-update}
use Rattle.spec_ledger.specs.declared.Kind.TheVariants.{Counter}
use Rattle.spec_ledger.proofs.Ops.{AreCells-back, counters_keep}
use Rattle.storage.specs.Counts.{Counts, Store, opened, count_at, IsUnsettled}
use Rattle.spec_ledger.proofs.Maps.{get-set_at, lock_cmp_total, lock_cmp-IsAntisymmetric}
use Rattle.storage.specs.declared.Slot.{Slot}
use Rattle.storage.specs.Slots.{base_of, cells_in, counts_in, cell_in, count_in, cell_back}

pub cell_of_cond : (below : Option ℕ) (b : Bool) (v : Slot) (o : Option Slot) → cond b v.cell (cell_in below o) ≡ cell_in below (cond b (Some v) o)
cell_of_cond below true v o = refl
cell_of_cond below false v o = refl

pub get-cells_in : (base : Cells) (es : List (Lock × Slot)) (q : Lock) → finite.get (cells_in base es) q ≡ cell_in (finite.get base q) (lookup (λ k. is_eq (lock_cmp q k)) es)
get-cells_in base [] q = refl
get-cells_in base (e ∷ es) q =
    get-set_at lock_cmp_total (cells_in base es) e.0 e.1.cell q
    ∙ ap (cond (eq_by_cmp lock_cmp q e.0) e.1.cell) (get-cells_in base es q)
    ∙ cell_of_cond (finite.get base q) (eq_by_cmp lock_cmp q e.0) e.1 _

count_of_cond : (floor : ℕ) (b : Bool) (v : Slot) (o : Option Slot) → cond b (counter (v.unsettled - floor)) (counter (count_in floor o)) ≡ counter (count_in floor (cond b (Some v) o))
count_of_cond floor true v o = refl
count_of_cond floor false v o = refl

pub get-counts_in : (floor : ℕ) (es : List (Lock × Slot)) (q : Lock) → finite.get (counts_in floor es) q ≡ counter (count_in floor (lookup (λ k. is_eq (lock_cmp q k)) es))
get-counts_in floor [] q = finite.get-empty lock_cmp q
get-counts_in floor (e ∷ es) q =
    get-set_at lock_cmp_total (counts_in floor es) e.0 (counter (e.1.unsettled - floor)) q
    ∙ ap (cond (eq_by_cmp lock_cmp q e.0) (counter (e.1.unsettled - floor))) (get-counts_in floor es q)
    ∙ count_of_cond floor (eq_by_cmp lock_cmp q e.0) e.1 _

-- what a map of slots means after one is written or dropped
module _ (m n : BTreeMap Lock Slot) (lock : Lock) (o : Option Slot) (h : (q : Lock) → tree.get lock_cmp n q ≡ cond (eq_by_cmp lock_cmp lock q) o (tree.get lock_cmp m q)) where
  pub cells_written : (base : Cells) → cells_in base n.entries ≡ set_at (cells_in base m.entries) lock (cell_in (finite.get base lock) o)
  cells_written base = finite.same_map lock_cmp_total lock_cmp-IsAntisymmetric _ _ (λ q.
      get-cells_in base n.entries q
      ∙ ap (cell_in (finite.get base q)) (h q)
      ∙ elim (eq_by_cmp lock_cmp lock q) as (λ b. eq_by_cmp lock_cmp lock q ≡ b → cell_in (finite.get base q) (cond b o (tree.get lock_cmp m q)) ≡ cond b (cell_in (finite.get base lock) o) (cell_in (finite.get base q) (tree.get lock_cmp m q))) [
        | true ↦ λ t. ap (λ k. cell_in (finite.get base k) o) (sym (is_key lock_cmp_total lock_cmp-IsAntisymmetric lock q t))
        | false ↦ λ _. refl
      ] refl
      ∙ ap (cond (eq_by_cmp lock_cmp lock q) (cell_in (finite.get base lock) o)) (sym (get-cells_in base m.entries q))
      ∙ ap (λ b. cond b (cell_in (finite.get base lock) o) (finite.get (cells_in base m.entries) q)) ((eq_by_cmp_equiv lock_cmp_total).symm lock q)
      ∙ sym (get-set_at lock_cmp_total (cells_in base m.entries) lock (cell_in (finite.get base lock) o) q))

  pub counts_written : (floor : ℕ) → counts_in floor n.entries ≡ set_at (counts_in floor m.entries) lock (counter (count_in floor o))
  counts_written floor = finite.same_map lock_cmp_total lock_cmp-IsAntisymmetric _ _ (λ q.
      get-counts_in floor n.entries q
      ∙ ap (λ x. counter (count_in floor x)) (h q)
      ∙ elim (eq_by_cmp lock_cmp lock q) as (λ b. counter (count_in floor (cond b o (tree.get lock_cmp m q))) ≡ cond b (counter (count_in floor o)) (counter (count_in floor (tree.get lock_cmp m q)))) [ true ↦ refl | false ↦ refl ]
      ∙ ap (cond (eq_by_cmp lock_cmp lock q) (counter (count_in floor o))) (sym (get-counts_in floor m.entries q))
      ∙ ap (λ b. cond b (counter (count_in floor o)) (finite.get (counts_in floor m.entries) q)) ((eq_by_cmp_equiv lock_cmp_total).symm lock q)
      ∙ sym (get-set_at lock_cmp_total (counts_in floor m.entries) lock (counter (count_in floor o)) q))

-- what a look-up finds
module _ (m : BTreeMap Lock Slot) (lock : Lock) (o : Option Slot) (is : o ≡ tree.get lock_cmp m lock) where
  pub cell_found : (base : Cells) → cell_in (finite.get base lock) o ≡ finite.get (cells_in base m.entries) lock
  cell_found base = ap (cell_in (finite.get base lock)) is ∙ sym (get-cells_in base m.entries lock)

  pub count_found : (floor : ℕ) → counter (count_in floor o) ≡ finite.get (counts_in floor m.entries) lock
  count_found floor = ap (λ x. counter (count_in floor x)) is ∙ sym (get-counts_in floor m.entries lock)

number-counter : (n : ℕ) → number (counter n) ≡ n
number-counter zero = refl
number-counter (suc n) = refl

pub same_cells : (m n : Cells) (l : Lock) (c : Option ℕ) → n ≡ set_at m l c → c ≡ finite.get m l → n ≡ m
same_cells m n l c e f = e ∙ ap (set_at m l) f ∙ update_same lock_cmp_total lock_cmp-IsAntisymmetric m l (λ x. x) refl

pub settled : (m n : Cells) (l : Lock) → n ≡ update m l (cell_back Keep) → n ≡ m
settled m n l e = e ∙ update_same lock_cmp_total lock_cmp-IsAntisymmetric m l (cell_back Keep) refl

-- a slot that is there, or else a new one with what is below it
abbrev pub IsThere : Option ℕ → Option Slot → Slot → Type 0
IsThere below None s = (s.cell ≡ below) × (s.unsettled ≡ 0)
IsThere below (Some v) s = s ≡ v

pub there_from : {made : Slot → Type 0} (below : Option ℕ) (o : Option Slot) (s : Slot) → UnwrapsOrElse o made s → ((v : Slot) → made v → (v.cell ≡ below) × (v.unsettled ≡ 0)) → IsThere below o s
there_from below None s h new = new s h
there_from below (Some v) s h new = h

cell_of_slot : (below : Option ℕ) (o : Option Slot) (s : Slot) → IsThere below o s → s.cell ≡ cell_in below o
cell_of_slot below None s e = e.0
cell_of_slot below (Some v) s e = ap (λ (x : Slot). x.cell) e

pub nothing_above : (floor : ℕ) → 0 - floor ≡ 0
nothing_above floor = omega arith

count_of_slot : (below : Option ℕ) (floor : ℕ) (o : Option Slot) (s : Slot) → IsThere below o s → s.unsettled - floor ≡ count_in floor o
count_of_slot below floor None s e = ap (λ n. n - floor) e.1 ∙ nothing_above floor
count_of_slot below floor (Some v) s e = ap (λ (x : Slot). x.unsettled - floor) e

-- the count of a slot that is there, or of an empty one
count_of_empty : (floor : ℕ) (o : Option Slot) (s : Slot) → s ≡ unwrap_or o (record { cell = None; unsettled = 0 }) → s.unsettled - floor ≡ count_in floor o
count_of_empty floor None s e = ap (λ (x : Slot). x.unsettled - floor) e ∙ nothing_above floor
count_of_empty floor (Some v) s e = ap (λ (x : Slot). x.unsettled - floor) e

pub count_of_new : (m : BTreeMap Lock Slot) (lock : Lock) (o : Option Slot) (s : Slot) → s ≡ unwrap_or o (record { cell = None; unsettled = 0 }) → o ≡ tree.get lock_cmp m lock
    → (floor : ℕ) → counter (s.unsettled - floor) ≡ finite.get (counts_in floor m.entries) lock
count_of_new m lock o s was is floor = ap counter (count_of_empty floor o s was) ∙ count_found m lock o is floor

-- a slot that is there, or a new one where there is none
module _ (base : Cells) (m : BTreeMap Lock Slot) (lock : Lock) (o : Option Slot) (s : Slot) (was : IsThere (finite.get base lock) o s) (is : o ≡ tree.get lock_cmp m lock) where
  pub slot_cell : s.cell ≡ finite.get (cells_in base m.entries) lock
  slot_cell = cell_of_slot (finite.get base lock) o s was ∙ cell_found m lock o is base

  pub slot_count : (floor : ℕ) → counter (s.unsettled - floor) ≡ finite.get (counts_in floor m.entries) lock
  slot_count floor = ap counter (count_of_slot (finite.get base lock) floor o s was) ∙ count_found m lock o is floor

  pub slot_number : (floor : ℕ) → s.unsettled - floor ≡ count_at (counts_in floor m.entries) lock
  slot_number floor = sym (number-counter (s.unsettled - floor)) ∙ ap number (slot_count floor)

  -- where nothing is above the top, this slot is not
  pub slot_below : (top : ℕ) → counts_in top m.entries ≡ finite.empty → s.unsettled ≤ top
  slot_below top none =
      let nothing : s.unsettled - top ≡ 0 = slot_number top ∙ ap (λ counts. count_at counts lock) none ∙ ap number (finite.get-empty lock_cmp lock) in
      omega (arith, nothing)

  -- after another is written in its place
  module _ (n : BTreeMap Lock Slot) (next : Slot) (h : (q : Lock) → tree.get lock_cmp n q ≡ cond (eq_by_cmp lock_cmp lock q) (Some next) (tree.get lock_cmp m q)) where
    pub cells_changed : (f : Option ℕ → Option ℕ) → next.cell ≡ f s.cell → cells_in base n.entries ≡ update (cells_in base m.entries) lock f
    cells_changed f e = cells_written m n lock (Some next) h base ∙ ap (λ c. set_at (cells_in base m.entries) lock c) (e ∙ ap f slot_cell)

    pub counts_changed : (floor : ℕ) (f : ℕ → ℕ) → next.unsettled - floor ≡ f (s.unsettled - floor) → counts_in floor n.entries ≡ update (counts_in floor m.entries) lock (λ c. counter (f (number c)))
    counts_changed floor f e = counts_written m n lock (Some next) h floor ∙ ap (λ c. set_at (counts_in floor m.entries) lock (counter c)) (e ∙ ap f (slot_number floor))

  -- after the same is written
  module _ (n : BTreeMap Lock Slot) (h : (q : Lock) → tree.get lock_cmp n q ≡ cond (eq_by_cmp lock_cmp lock q) (Some s) (tree.get lock_cmp m q)) where
    pub cells_kept : cells_in base n.entries ≡ cells_in base m.entries
    cells_kept = same_cells (cells_in base m.entries) (cells_in base n.entries) lock s.cell (cells_written m n lock (Some s) h base) slot_cell

    pub counts_kept : (floor : ℕ) → counts_in floor n.entries ≡ counts_in floor m.entries
    counts_kept floor = same_cells (counts_in floor m.entries) (counts_in floor n.entries) lock (counter (s.unsettled - floor)) (counts_written m n lock (Some s) h floor) (slot_count floor)

-- ---- a base without slots

pub without_slots : (base : Cells) (es : List (Lock × Slot)) → es ≡ [] → cells_in base es ≡ base
without_slots base es e = ap (cells_in base) e

pub cells_of_entries : (m : Cells) (base : List (Lock × ℕ)) → base ≡ finite.entries m → base_of base ≡ m
cells_of_entries m base e = ap base_of e ∙ finite.same_entries_map _ m (finite.entries-from_sorted lock_cmp (finite.entries m) (finite.entries_sorted m))

pub no_cells : base_of [] ≡ finite.empty
no_cells = finite.same_map lock_cmp_total lock_cmp-IsAntisymmetric _ _ (λ q. finite.get-from_sorted lock_cmp [] q tt ∙ sym (finite.get-empty lock_cmp q))

pub read_cells : (op : Op) (m : Cells) (b : Bool) → b ≡ is_reading op → b ≡ true → m ≡ cells_after op m
read_cells (Get p) m b e f = sym (update_same lock_cmp_total lock_cmp-IsAntisymmetric m (map_at p) (λ c. c) refl)
read_cells (Has p) m b e f = sym (update_same lock_cmp_total lock_cmp-IsAntisymmetric m (map_at p) (λ c. c) refl)
read_cells (Total p) m b e f = sym (update_same lock_cmp_total lock_cmp-IsAntisymmetric m (counter_at p) (λ c. c) refl)
read_cells (Put p v) m b e f = cc
read_cells (Del p) m b e f = cc
read_cells (Add p v) m b e f = cc

pub applied : (op : Op) (m n : Cells) (l : Lock) → n ≡ update m l (cell_after op) → l ≡ lock_of op → n ≡ cells_after op m
applied op m n l e f = e ∙ ap (λ k. update m k (cell_after op)) f

opened_is : (op : Op) (c : Option ℕ) (m : Counts) → is_reading op ≡ false → opened (inverse_of op c) m ≡ update m (lock_of op) (λ n. counter (number n + 1))
opened_is (Get p) c m e = cc
opened_is (Has p) c m e = cc
opened_is (Total p) c m e = cc
opened_is (Put p v) c m e = refl
opened_is (Del p) c m e = refl
opened_is (Add p v) c m e = refl

pub opened_by : (op : Op) (cell : Option ℕ) (i : Inverse) (b : Bool) (m n : Counts) (l : Lock) → n ≡ update m l (λ x. counter (number x + 1)) → l ≡ lock_of op → i ≡ inverse_of op cell → b ≡ is_reading op → b ≡ false → n ≡ opened i m
opened_by op cell i b m n l e f h r changing =
    e
    ∙ ap (λ k. update m k (λ x. counter (number x + 1))) f
    ∙ sym (ap (λ x. opened x m) h ∙ opened_is op cell m (sym r ∙ changing))

pub AreCells-subtracted : (m n : Cells) (p : CellKey) (v : ℕ) (l : Lock) → n ≡ update m l (subtracted v) → l ≡ counter_at p → AreCells m → AreCells n
AreCells-subtracted m n p v l e f are = subst (λ x. AreCells x) (sym (e ∙ ap (λ k. update m k (subtracted v)) f)) (AreCells-back (Subtract p v) m are)

pub AreCells-restored : (m n : Cells) (p : CellKey) (l : Lock) (c : Option ℕ) → n ≡ set_at m l c → l ≡ map_at p → AreCells m → AreCells n
AreCells-restored m n p l c e f are = subst (λ x. AreCells x) (sym (e ∙ ap (λ k. set_at m k c) f)) (AreCells-back (Restore p c) m are)

counter_not_zero : (l : Lock) (v : ℕ) (p : CellKey) → (l.kind ≡ Counter → 0 < v) → v < 2 ^ 64 → counter_at p ≡ l → IsCounter (Some v)
counter_not_zero l v p condition fits e = record { fits = fits; not_zero = λ z. let h : 0 < v = condition (sym (ap (λ (x : Lock). x.kind) e)) in absurd (omega (arith, h, ap number z)) }

above_zero : (v : ℕ) → Some v ≢ Some 0 → 0 < v
above_zero zero h = absurd (h refl)
above_zero (suc n) h = omega arith

pub AreCells-inserted : (m n : Cells) (l : Lock) (v : ℕ) → n ≡ set_at m l (Some v) → (l.kind ≡ Counter → 0 < v) → v < 2 ^ 64 → AreCells m → AreCells n
AreCells-inserted m n l v e condition fits are = record {
  counters = λ p. subst (λ (x : Option ℕ). IsCounter x) (sym (ap (λ x. finite.get x (counter_at p)) e ∙ get-set_at lock_cmp_total m l (Some v) (counter_at p)))
      (elim (eq_by_cmp lock_cmp (counter_at p) l) as (λ b. eq_by_cmp lock_cmp (counter_at p) l ≡ b → IsCounter (cond b (Some v) (finite.get m (counter_at p)))) [
        | true ↦ λ t. counter_not_zero l v p condition fits (is_key lock_cmp_total lock_cmp-IsAntisymmetric (counter_at p) l t)
        | false ↦ λ _. are.counters p
      ] refl);
}

pub types_written : (m n : Cells) (l : Lock) (c : Option ℕ) → n ≡ set_at m l c → ((v : ℕ) → c ≡ Some v → IsOfItsType l v) → AreOfTheirTypes m → AreOfTheirTypes n
types_written m n l c e here are = subst (λ x. AreOfTheirTypes x) (sym e) (types-set_at m l c are here)

count_more : (m : Counts) (l : Lock) → 0 < count_at (update m l (λ n. counter (number n + 1))) l
count_more m l =
    let e : count_at (update m l (λ n. counter (number n + 1))) l ≡ number (finite.get m l) + 1 =
    ap number (get-update lock_cmp_total lock_cmp-IsAntisymmetric m l (λ n. counter (number n + 1)) l
    ∙ ap (λ b. cond b (counter (number (finite.get m l) + 1)) (finite.get m l)) (key_itself lock_cmp_total lock_cmp-IsAntisymmetric l))
    ∙ number-counter (number (finite.get m l) + 1) in
    omega (arith, e)

pub IsUnsettled-opened : (i : Inverse) (m : Counts) → IsUnsettled i (opened i m)
IsUnsettled-opened Keep m = tt
IsUnsettled-opened (Subtract p v) m = count_more m (counter_at p)
IsUnsettled-opened (Restore p c) m = count_more m (map_at p)

pub IsUnsettled-by : (i : Inverse) (m n : Counts) → n ≡ opened i m → IsUnsettled i n
IsUnsettled-by i m n e = subst (λ x. IsUnsettled i x) (sym e) (IsUnsettled-opened i m)

pub IsUnsettled-read : (op : Op) (cell : Option ℕ) (i : Inverse) (b : Bool) (m : Counts) → i ≡ inverse_of op cell → b ≡ is_reading op → b ≡ true → IsUnsettled i m
IsUnsettled-read (Get p) c i b m e f g = subst (λ x. IsUnsettled x m) (sym e) tt
IsUnsettled-read (Has p) c i b m e f g = subst (λ x. IsUnsettled x m) (sym e) tt
IsUnsettled-read (Total p) c i b m e f g = subst (λ x. IsUnsettled x m) (sym e) tt
IsUnsettled-read (Put p v) c i b m e f g = cc
IsUnsettled-read (Del p) c i b m e f g = cc
IsUnsettled-read (Add p v) c i b m e f g = cc

pub same_store : (c d : Cells) (u v : Counts) → c ≡ d → u ≡ v → ◌≡◌ {A = Store} (record { cells = c; unsettled = u }) (record { cells = d; unsettled = v })
same_store c d u v p q = λ i. record { cells = p i; unsettled = q i }

pub on_any_err : {T E P : Type 0} (r : Result T E) → P → OnErr r P
on_any_err (Ok x) p = tt
on_any_err (Err e) p = p

-- ---- a cell that is set

pub fits_set : (m n : Cells) (k : Lock) (c : Option ℕ) → n ≡ set_at m k c → AreOfTheirTypes n → (v : ℕ) → c ≡ Some v → v < 2 ^ 64
fits_set m n k c e types v is =
    (types k v (ap (λ x. finite.get x k) e ∙ get-set_at lock_cmp_total m k c k ∙ ap (λ b. cond b c (finite.get m k)) (key_itself lock_cmp_total lock_cmp-IsAntisymmetric k) ∙ is)).number

pub AreCells-set : (m n : Cells) (k : Lock) (c : Option ℕ) → n ≡ set_at m k c → (k.kind ≡ Counter → c ≢ Some 0) → ((v : ℕ) → c ≡ Some v → v < 2 ^ 64) → AreCells m → AreCells n
AreCells-set m n k None e condition fits are = subst AreCells (sym e) (counters_keep m k (λ _. None) (λ _ _. record { fits = omega arith; not_zero = λ none. cc }) are)
AreCells-set m n k (Some v) e condition fits are = AreCells-inserted m n k v e (λ at. above_zero v (condition at)) (fits v refl) are

pub none_emptied : (m n : Counts) (k : Lock) → n ≡ set_at m k None → m ≡ finite.empty → n ≡ finite.empty
none_emptied m n k e none =
    e ∙ ap (λ x. set_at x k None) none
    ∙ update_same lock_cmp_total lock_cmp-IsAntisymmetric finite.empty k (λ _. None) (sym (finite.get-empty lock_cmp k))

-- at most one slot more where there is room for it
at_most_one : (b : Bool) → (if b then 0 else 1) ≤ 1
at_most_one true = omega arith
at_most_one false = omega arith

pub one_more : (base old new : ℕ) (b : Bool) → new ≡ old + (if b then 0 else 1) → base + old + 1 < 2 ^ 63 → base + new < 2 ^ 63
one_more base old new b size room = let one = at_most_one b in omega (arith, size, room, one)

pub few_alone : (base : List (Lock × ℕ)) (es : List (Lock × Slot)) → es ≡ [] → length base < 2 ^ 63 → length base + length es < 2 ^ 63
few_alone base es none few = let size : length es ≡ 0 = ap length none in omega (arith, size, few)

-- no more slots than there were
pub fewer_yet : (base old new : ℕ) → new ≤ old → base + old < 2 ^ 63 → base + new < 2 ^ 63
fewer_yet base old new less few = omega (arith, less, few)

-- ---- the top

fewer_above : (o : Option Slot) (top higher : ℕ) → top ≤ higher → counter (count_in top o) ≡ None → counter (count_in higher o) ≡ None
fewer_above None top higher le none = refl
fewer_above (Some s) top higher le none =
    let nothing : s.unsettled - top ≡ 0 = sym (number-counter (s.unsettled - top)) ∙ ap number none in
    let higher_yet : s.unsettled - higher ≡ 0 = omega (arith, nothing, le) in
    ap counter higher_yet

-- a higher top is one, too
pub tops_higher : (es : List (Lock × Slot)) (top higher : ℕ) → top ≤ higher → counts_in top es ≡ finite.empty → counts_in higher es ≡ finite.empty
tops_higher es top higher le none = finite.same_map lock_cmp_total lock_cmp-IsAntisymmetric _ _ (λ q.
    get-counts_in higher es q
    ∙ fewer_above (lookup (λ k. is_eq (lock_cmp q k)) es) top higher le (sym (get-counts_in top es q) ∙ ap (λ counts. finite.get counts q) none ∙ finite.get-empty lock_cmp q)
    ∙ sym (finite.get-empty lock_cmp q))

-- a slot that is not above it is written
pub tops_written : (m n : BTreeMap Lock Slot) (lock : Lock) (next : Slot) → ((q : Lock) → tree.get lock_cmp n q ≡ cond (eq_by_cmp lock_cmp lock q) (Some next) (tree.get lock_cmp m q))
    → (top : ℕ) → next.unsettled ≤ top → counts_in top m.entries ≡ finite.empty → counts_in top n.entries ≡ finite.empty
tops_written m n lock next h top le none =
    let nothing : next.unsettled - top ≡ 0 = omega (arith, le) in
    none_emptied (counts_in top m.entries) (counts_in top n.entries) lock
    (counts_written m n lock (Some next) h top ∙ ap (λ c. set_at (counts_in top m.entries) lock (counter c)) nothing) none

pub tops-none : (es : List (Lock × Slot)) (top : ℕ) → es ≡ [] → counts_in top es ≡ finite.empty
tops-none es top e = ap (counts_in top) e
