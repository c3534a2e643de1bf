-- The store of two lists of cells, one of each kind, has them by their kinds.
use Rattle.std.proofs.Common.{◌≡◌, ◌≢◌, ℕ, ◌<◌, ◌^◌, Bool, true, false, cond, ◌&&◌, T, List, [], ◌∷◌, ◌++◌, length, Option, Some, None, Ordering, Less, Equal, Greater, refl, sym, ap, subst, ◌∙◌, arith}
use Rattle.std.specs.List.{filter, AllByRecursion}
use Rattle.std.specs.Ordering.{is_lt, is_eq, eq_by_cmp}
use Rattle.std.specs.FinMap.{entries, from_entries, get, find, is_sorted, get-from_entries, get-entries, entries_sorted}
use Rattle.std.specs.FinMap.Entries.{below_all, is_sorted-where_key, find-where_key, same_entries}
use Rattle.spec_ledger.specs.declared.Kind.{Kind}
use Rattle.spec_ledger.specs.declared.Kind.TheVariants.{Map, Counter}
use Rattle.spec_ledger.specs.declared.Lock.{Lock}
use Rattle.spec_ledger.specs.Cells.{lock_cmp, Cells}
use Rattle.spec_block.specs.Bytes.{is_map, is_counter, IsCell}
use Rattle.spec_block.proofs.Locks.{lock_is}
use Rattle.spec_block.proofs.OneWorld.{lock_cmp_total, lock_cmp-IsAntisymmetric, IsCellOf, kept, fewer, only_map, only_counter}
use Rattle.records.specs.Exact.{Follow}
use Rattle.world.specs.Cells.{Cell, IsNextCell, AreCellsOf, AreLists, IsStoreOf}
use Rattle.storage.specs.Slots.{AreHeld}

-- ---- a list whose locks rise

pub is_less : (o : Ordering) → is_lt o ≡ true → o ≡ Less
is_less Less e = refl
is_less Equal e = absurd cc
is_less Greater e = absurd cc

pub so : (b : Bool) → b ≡ true → T b
so true e = tt
so false e = absurd (cc e)

both : (a b : Bool) → T a → T b → T (a && b)
both true b p q = q
both false b p q = p

pub first : (a b : Bool) → T (a && b) → a ≡ true
first true b p = refl
first false b p = absurd p

pub second : (a b : Bool) → T (a && b) → T b
second true b p = p
second false b p = absurd p

below : (kind : Kind) (a : Lock) (b : Cell) (es : List Cell) → ((l : Lock) → lock_cmp b.0 l ≡ Less → lock_cmp a l ≡ Less) → Follow (IsNextCell kind) (Some b) es → T (below_all lock_cmp a es)
below kind a b [] step follow = tt
below kind a b (c ∷ es) step follow =
    let less : lock_cmp a c.0 ≡ Less = step c.0 (is_less (lock_cmp b.0 c.0) follow.0.after) in
    both (is_lt (lock_cmp a c.0)) (below_all lock_cmp a es) (so (is_lt (lock_cmp a c.0)) (ap is_lt less)) (below kind a c es (λ l h. lock_cmp_total.trans a c.0 l less h) follow.1)

pub rising_is_sorted : (kind : Kind) (before : Option Cell) (es : List Cell) → Follow (IsNextCell kind) before es → T (is_sorted lock_cmp es)
rising_is_sorted kind before [] follow = tt
rising_is_sorted kind before (c ∷ es) follow = both (below_all lock_cmp c.0 es) (is_sorted lock_cmp es) (below kind c.0 c es (λ l h. h) follow.1) (rising_is_sorted kind (Some c) es follow.1)

follow_on : (kind : Kind) (b : Cell) (es : List Cell) → T (below_all lock_cmp b.0 es) → T (is_sorted lock_cmp es) → AllByRecursion (IsCellOf kind) es → Follow (IsNextCell kind) (Some b) es
follow_on kind b [] under sorted all = tt
follow_on kind b (c ∷ es) under sorted all = (
  record { cell = all.0.0; kind_is = all.0.1; after = first (is_lt (lock_cmp b.0 c.0)) (below_all lock_cmp b.0 es) under },
  follow_on kind c es (so (below_all lock_cmp c.0 es) (first (below_all lock_cmp c.0 es) (is_sorted lock_cmp es) sorted)) (second (below_all lock_cmp c.0 es) (is_sorted lock_cmp es) sorted) all.1,
)

sorted_follow : (kind : Kind) (es : List Cell) → T (is_sorted lock_cmp es) → AllByRecursion (IsCellOf kind) es → Follow (IsNextCell kind) None es
sorted_follow kind [] sorted all = tt
sorted_follow kind (c ∷ es) sorted all = (
  record { cell = all.0.0; kind_is = all.0.1; after = refl },
  follow_on kind c es (so (below_all lock_cmp c.0 es) (first (below_all lock_cmp c.0 es) (is_sorted lock_cmp es) sorted)) (second (below_all lock_cmp c.0 es) (is_sorted lock_cmp es) sorted) all.1,
)

-- ---- from a store to its lists

abbrev pub these : (Kind → Bool) → List Cell → List Cell
these is es = filter (λ (c : Cell). is c.0.kind) es

cells_of : (is : Kind → Bool) (kind : Kind) → ((k : Kind) → is k ≡ true → k ≡ kind) → (cells : Cells) → AllByRecursion IsCell (entries cells) → length (entries cells) < 2 ^ 64 → AreCellsOf kind (these is (entries cells))
cells_of is kind only cells all size = record {
  count = (let f = fewer is (entries cells) in omega (arith, f, size));
  each = sorted_follow kind (these is (entries cells)) (is_sorted-where_key lock_cmp (λ (l : Lock). is l.kind) (entries cells) (entries_sorted cells)) (kept is kind only (entries cells) all);
}

pub lists_of : (cells : Cells) → AllByRecursion IsCell (entries cells) → length (entries cells) < 2 ^ 64 → AreLists (these is_map (entries cells), these is_counter (entries cells))
lists_of cells all size = (cells_of is_map Map only_map cells all size, cells_of is_counter Counter only_counter cells all size)

-- ---- from two lists to their store

abbrev or_else : Option ℕ → Option ℕ → Option ℕ
or_else (Some x) other = Some x
or_else None other = other

or_none : (o : Option ℕ) → or_else o None ≡ o
or_none (Some x) = refl
or_none None = refl

chosen : (b : Bool) (x : ℕ) (o other : Option ℕ) → cond b (Some x) (or_else o other) ≡ or_else (cond b (Some x) o) other
chosen true x o other = refl
chosen false x o other = refl

find_both : (es fs : List Cell) (q : Lock) → find lock_cmp q (es ++ fs) ≡ or_else (find lock_cmp q es) (find lock_cmp q fs)
find_both [] fs q = refl
find_both (c ∷ es) fs q = ap (cond (eq_by_cmp lock_cmp q c.0) (Some c.1)) (find_both es fs q) ∙ chosen (eq_by_cmp lock_cmp q c.0) c.1 (find lock_cmp q es) (find lock_cmp q fs)

not_found : (kind : Kind) (before : Option Cell) (q : Lock) (es : List Cell) → Follow (IsNextCell kind) before es → q.kind ≢ kind → find lock_cmp q es ≡ None
not_found kind before q [] follow other = refl
not_found kind before q (c ∷ es) follow other =
    elim (eq_by_cmp lock_cmp q c.0) as (λ t. eq_by_cmp lock_cmp q c.0 ≡ t → cond t (Some c.1) (find lock_cmp q es) ≡ None) [
      | true ↦ λ e. absurd (other (ap (λ (l : Lock). l.kind) (lock_is q c.0 e) ∙ follow.0.kind_is))
      | false ↦ λ e. not_found kind (Some c) q es follow.1 other
    ] refl

-- a list that has what the store has of a kind is the store's of that kind
list_is : (is : Kind → Bool) (m : Cells) (list : List Cell) → T (is_sorted lock_cmp list) → ((q : Lock) → find lock_cmp q list ≡ cond (is q.kind) (get m q) None) → these is (entries m) ≡ list
list_is is m list sorted same =
    same_entries lock_cmp lock_cmp_total lock_cmp-IsAntisymmetric (these is (entries m)) list (is_sorted-where_key lock_cmp (λ (l : Lock). is l.kind) (entries m) (entries_sorted m)) sorted
    (λ q. find-where_key lock_cmp (λ (l : Lock). is l.kind) q (λ x e. ap (λ (l : Lock). is l.kind) (sym (lock_is q x (ap is_eq e)))) (entries m) ∙ (ap (λ (o : Option ℕ). cond (is q.kind) o None) (sym (get-entries m q)) ∙ sym (same q)))

store : List Cell → List Cell → Cells
store maps counters = from_entries (maps ++ counters)

got : (maps counters : List Cell) (q : Lock) → get (store maps counters) q ≡ or_else (find lock_cmp q maps) (find lock_cmp q counters)
unfolding store
got maps counters q = get-from_entries lock_cmp_total (maps ++ counters) q ∙ find_both maps counters q

maps_at : (maps counters : List Cell) → AreLists (maps, counters) → (q : Lock) (k : Kind) → q.kind ≡ k → find lock_cmp q maps ≡ cond (is_map q.kind) (get (store maps counters) q) None
maps_at maps counters are q Map e =
    let none : find lock_cmp q counters ≡ None = not_found Counter None q counters are.1.each (λ f. absurd (let g : Map ≡ Counter = sym e ∙ f in cc g)) in
    sym (ap (λ (k : Kind). cond (is_map k) (get (store maps counters) q) None) e ∙ (got maps counters q ∙ (ap (or_else (find lock_cmp q maps)) none ∙ or_none (find lock_cmp q maps))))
maps_at maps counters are q Counter e =
    not_found Map None q maps are.0.each (λ f. absurd (let g : Counter ≡ Map = sym e ∙ f in cc g)) ∙ sym (ap (λ (k : Kind). cond (is_map k) (get (store maps counters) q) None) e)

counters_at : (maps counters : List Cell) → AreLists (maps, counters) → (q : Lock) (k : Kind) → q.kind ≡ k → find lock_cmp q counters ≡ cond (is_counter q.kind) (get (store maps counters) q) None
counters_at maps counters are q Counter e =
    let none : find lock_cmp q maps ≡ None = not_found Map None q maps are.0.each (λ f. absurd (let g : Counter ≡ Map = sym e ∙ f in cc g)) in
    sym (ap (λ (k : Kind). cond (is_counter k) (get (store maps counters) q) None) e ∙ (got maps counters q ∙ ap (λ (o : Option ℕ). or_else o (find lock_cmp q counters)) none))
counters_at maps counters are q Map e =
    not_found Counter None q counters are.1.each (λ f. absurd (let g : Map ≡ Counter = sym e ∙ f in cc g)) ∙ sym (ap (λ (k : Kind). cond (is_counter k) (get (store maps counters) q) None) e)

each_cell : (kind : Kind) (before : Option Cell) (es : List Cell) → Follow (IsNextCell kind) before es → AllByRecursion IsCell es
each_cell kind before [] follow = tt
each_cell kind before (c ∷ es) follow = (follow.0.cell, each_cell kind (Some c) es follow.1)

by_kind : (c : Cell) (es : List Cell) (k : Kind) → c.0.kind ≡ k → (AllByRecursion IsCell (these is_map es) → AllByRecursion IsCell (these is_counter es) → AllByRecursion IsCell es)
    → AllByRecursion IsCell (these is_map (c ∷ es)) → AllByRecursion IsCell (these is_counter (c ∷ es)) → AllByRecursion IsCell (c ∷ es)
by_kind c es Map e others maps counters =
    let m : AllByRecursion IsCell (c ∷ these is_map es) = subst (λ (k : Kind). AllByRecursion IsCell (cond (is_map k) (c ∷ these is_map es) (these is_map es))) e maps in
    let n : AllByRecursion IsCell (these is_counter es) = subst (λ (k : Kind). AllByRecursion IsCell (cond (is_counter k) (c ∷ these is_counter es) (these is_counter es))) e counters in
    (m.0, others m.1 n)
by_kind c es Counter e others maps counters =
    let m : AllByRecursion IsCell (these is_map es) = subst (λ (k : Kind). AllByRecursion IsCell (cond (is_map k) (c ∷ these is_map es) (these is_map es))) e maps in
    let n : AllByRecursion IsCell (c ∷ these is_counter es) = subst (λ (k : Kind). AllByRecursion IsCell (cond (is_counter k) (c ∷ these is_counter es) (these is_counter es))) e counters in
    (n.0, others m n.1)

-- what is true of the cells of each kind is true of all
of_all : (es : List Cell) → AllByRecursion IsCell (these is_map es) → AllByRecursion IsCell (these is_counter es) → AllByRecursion IsCell es
of_all [] maps counters = tt
of_all (c ∷ es) maps counters = by_kind c es c.0.kind refl (of_all es) maps counters

pub is_store : (maps counters : List Cell) (m : Cells) → AreLists (maps, counters) → m ≡ from_entries (maps ++ counters) → IsStoreOf m (maps, counters)
unfolding store
is_store maps counters m are e =
    let s = store maps counters in
    let a : these is_map (entries s) ≡ maps = list_is is_map s maps (rising_is_sorted Map None maps are.0.each) (λ q. maps_at maps counters are q q.kind refl) in
    let b : these is_counter (entries s) ≡ counters = list_is is_counter s counters (rising_is_sorted Counter None counters are.1.each) (λ q. counters_at maps counters are q q.kind refl) in
    subst (λ (n : Cells). IsStoreOf n (maps, counters)) (sym e) (record {
      maps = a;
      counters = b;
      each = of_all (entries s) (subst (AllByRecursion IsCell) (sym a) (each_cell Map None maps are.0.each)) (subst (AllByRecursion IsCell) (sym b) (each_cell Counter None counters are.1.each));
    })

-- ---- what may be put

positive : (n : ℕ) → n ≢ 0 → 0 < n
positive n ne = omega (arith, ne)

pub are_held : (kind : Kind) (before : Option Cell) (es : List Cell) → Follow (IsNextCell kind) before es → AreHeld es
are_held kind before [] follow = tt
are_held kind before (c ∷ es) follow = (
  record { contract = follow.0.cell.contract; key = follow.0.cell.key; number = follow.0.cell.number },
  (λ k. positive c.1 (follow.0.cell.not_zero k)),
  are_held kind (Some c) es follow.1,
)
