-- A module passes the tests exactly where it is typed.
use Rattle.std.proofs.Common.{◌≡◌, ◌≢◌, ℕ, suc, ◌<◌, ◌≤◌, nat_le, nat_lt, Bool, true, false, not, ◌&&◌, ◌||◌, get_or, List, [], ◌∷◌, ◌++◌, Option, Some, None, IfSome, length, slice_get, map, option_and_then, refl, sym, ap, subst, ◌∙◌, arith, All}
use Rattle.std.specs.Prelude.{filter_map, AllPairs}
use Rattle.std.specs.List.{list_all, list_any, cons_option}
use Rattle.std.specs.Str.{bytes_eq}
use Rattle.std.proofs.lemmas.Bool.Decides.{nat_tests}
use Rattle.std.proofs.lemmas.Slice.Eq.{bytes_eq-Decides}
use Rattle.std.proofs.lemmas.List.Elements.{All-nil, All-cons, All-head, All-tail, All-append}
use Rattle.std.proofs.lemmas.List.Kept.{AllPairs-cons}
use Rattle.wtypes.specs.declared.ValType.{ValType}
use Rattle.wtypes.specs.declared.ValType.TheVariants.{I32}
use Rattle.wtypes.specs.declared.PlainInstr.TheVariants.{GlobalGet, Const}
use Rattle.spec_modules.specs.Syntax.{Instrs, Plain, nothing, seq, FuncType, Limits, GlobalType, Name, Import, ImportDesc, ImportFunc, ImportTable, ImportMemory, ImportGlobal, Export, ExportDesc, ExportFunc, ExportTable, ExportMemory, ExportGlobal, Func, Element, DataSegment, Module}
use Rattle.spec_modules.specs.Operators.{same_type, type_of}
use Rattle.spec_typing.specs.Typing.{Typed, of}
use Rattle.spec_typing.specs.Principal.{run, empty}
use Rattle.spec_typing.specs.Modules.{Spaces, func_of, table_of, memory_of, func_type_indices, tables, memories, imported_globals, globals, type_at, is_not_empty, result_of, spaces_of, context_of, IsConstant, LimitsTyped, MemoryTyped, BodyTyped, GlobalTyped, ExportTyped, ElementTyped, DataTyped, StartTyped, ModuleTyped}
use Rattle.spec_typing.proofs.Sound.{run_some, ended, same_type_eq, both}
use Rattle.spec_typing.proofs.Complete.{run_gives, ends_gives, join_true, same_type_of}
use Rattle.typing.specs.Tests.{type_passes, max_passes, max_within, table_passes, memory_passes, at_most_one, with_table, with_memory, import_passes, imports_pass, any_table, any_memory, func_passes, is_constant, constant_passes, global_passes, element_passes, data_passes, takes_nothing, start_passes, export_passes, exports_pass, body_passes, module_passes}

-- ---- Tests

below_of : (a b : ℕ) → nat_lt a b ≡ true → a < b
below_of a b h = grind (arith, nat_tests)

of_below : (a b : ℕ) → a < b → nat_lt a b ≡ true
of_below a b h = grind (arith, nat_tests)

most_of : (a b : ℕ) → nat_le a b ≡ true → a ≤ b
most_of a b h = grind (arith, nat_tests)

of_most : (a b : ℕ) → a ≤ b → nat_le a b ≡ true
of_most a b h = grind (arith, nat_tests)

not_true : (b : Bool) → not b ≡ true → b ≡ false
not_true true e = cc
not_true false e = refl

true_not : (b : Bool) → b ≡ false → not b ≡ true
true_not true e = cc
true_not false e = refl

module _ {X : Type 0} (p : X → Bool) (P : X → Type 0) where
  all_of : ((x : X) → p x ≡ true → P x) → (xs : List X) → list_all p xs ≡ true → All P xs
  all_of k [] e = All-nil P
  all_of k (x ∷ xs) e = let h = both (p x) (list_all p xs) e in All-cons P x xs (k x h.0) (all_of k xs h.1)

  of_all : ((x : X) → P x → p x ≡ true) → (xs : List X) → All P xs → list_all p xs ≡ true
  of_all k [] h = refl
  of_all k (x ∷ xs) h = join_true (p x) (list_all p xs) (k x (All-head P x xs h)) (of_all k xs (All-tail P x xs h))

-- ---- Limits

limits_of : (l : Limits) → table_passes l ≡ true → LimitsTyped l
limits_of l e = at l.min l.max e
  where
    at : (min : ℕ) (max : Option ℕ) → max_passes min max ≡ true → IfSome max (λ max. min ≤ max)
    at min None e = tt
    at min (Some max) e = most_of min max e

of_limits : (l : Limits) → LimitsTyped l → table_passes l ≡ true
of_limits l h = at l.min l.max h
  where
    at : (min : ℕ) (max : Option ℕ) → IfSome max (λ max. min ≤ max) → max_passes min max ≡ true
    at min None h = refl
    at min (Some max) h = of_most min max h

within_of : (most : ℕ) (max : Option ℕ) → max_within most max ≡ true → IfSome max (λ max. max ≤ most)
within_of most None e = tt
within_of most (Some max) e = most_of max most e

of_within : (most : ℕ) (max : Option ℕ) → IfSome max (λ max. max ≤ most) → max_within most max ≡ true
of_within most None h = refl
of_within most (Some max) h = of_most max most h

memory_of_test : (l : Limits) → memory_passes l ≡ true → MemoryTyped l
memory_of_test l e =
    let h = both (table_passes l) (nat_le l.min 65536 && max_within 65536 l.max) e in
    let k = both (nat_le l.min 65536) (max_within 65536 l.max) h.1 in
    (limits_of l h.0, most_of l.min 65536 k.0, within_of 65536 l.max k.1)

test_of_memory : (l : Limits) → MemoryTyped l → memory_passes l ≡ true
test_of_memory l h = join_true (table_passes l) (nat_le l.min 65536 && max_within 65536 l.max) (of_limits l h.0)
    (join_true (nat_le l.min 65536) (max_within 65536 l.max) (of_most l.min 65536 h.1) (of_within 65536 l.max h.2))

-- ---- At most one, imported or not

module _ (p : Limits → Bool) where
  -- after some that are imported
  after : Bool → List Limits → Bool
  after there [] = there
  after there (l ∷ ls) = after true ls

  one_append : (there : Bool) (xs ys : List Limits) → at_most_one p there xs ≡ true → at_most_one p (after there xs) ys ≡ true → at_most_one p there (xs ++ ys) ≡ true
  unfolding after
  one_append there [] ys e f = f
  one_append there (x ∷ xs) ys e f =
      let h = both (not there) (p x && at_most_one p true xs) e in
      let k = both (p x) (at_most_one p true xs) h.1 in
      join_true (not there) (p x && at_most_one p true (xs ++ ys)) h.0 (join_true (p x) (at_most_one p true (xs ++ ys)) k.0 (one_append true xs ys k.1 f))

  one_split : (there : Bool) (xs ys : List Limits) → at_most_one p there (xs ++ ys) ≡ true → (at_most_one p there xs ≡ true) × (at_most_one p (after there xs) ys ≡ true)
  unfolding after
  one_split there [] ys e = (refl, e)
  one_split there (x ∷ xs) ys e =
      let h = both (not there) (p x && at_most_one p true (xs ++ ys)) e in
      let k = both (p x) (at_most_one p true (xs ++ ys)) h.1 in
      let r = one_split true xs ys k.1 in
      (join_true (not there) (p x && at_most_one p true xs) h.0 (join_true (p x) (at_most_one p true xs) k.0 r.0), r.1)

  none_there : (xs : List Limits) → at_most_one p true xs ≡ true → xs ≡ []
  none_there [] e = refl
  none_there (x ∷ xs) e = cc

module _ (p : Limits → Bool) (P : Limits → Type 0) where
  one_of : ((l : Limits) → p l ≡ true → P l) → (xs : List Limits) → at_most_one p false xs ≡ true → (length xs ≤ 1) × All P xs
  one_of k [] e = (omega arith, All-nil P)
  one_of k (x ∷ xs) e =
      let h = both (p x) (at_most_one p true xs) e in
      let none = none_there p xs h.1 in
      let size : length xs ≡ 0 = ap length none in
      (omega (arith, size), All-cons P x xs (k x h.0) (let Q : List Limits → Type 0 = All P in subst Q (sym none) (All-nil P)))

  of_one : ((l : Limits) → P l → p l ≡ true) → (xs : List Limits) → length xs ≤ 1 → All P xs → at_most_one p false xs ≡ true
  of_one k [] n h = refl
  of_one k (x ∷ []) n h = join_true (p x) true (k x (All-head P x [] h)) refl
  of_one k (x ∷ y ∷ xs) n h = absurd (omega arith)

-- ---- Imports

abbrev funcs_in : List Import → List ℕ
funcs_in is = filter_map (λ i. func_of i.desc) is

abbrev tables_in : List Import → List Limits
tables_in is = filter_map (λ i. table_of i.desc) is

abbrev memories_in : List Import → List Limits
memories_in is = filter_map (λ i. memory_of i.desc) is

-- one more import that is a function, a table, a memory or a global
tables_step : (there : Bool) (d : ImportDesc) (is : List Import) → any_table (with_table there d) is ≡ after table_passes (with_table there d) (tables_in is) →
    any_table (with_table there d) is ≡ after table_passes there (cons_option (table_of d) (tables_in is))
unfolding after
tables_step there (ImportFunc index) is e = e
tables_step there (ImportTable limits) is e = e
tables_step there (ImportMemory limits) is e = e
tables_step there (ImportGlobal type) is e = e

table_after : (there : Bool) (is : List Import) → any_table there is ≡ after table_passes there (tables_in is)
unfolding after
table_after there [] = refl
table_after there (i ∷ is) = tables_step there i.desc is (table_after (with_table there i.desc) is)

memories_step : (there : Bool) (d : ImportDesc) (is : List Import) → any_memory (with_memory there d) is ≡ after memory_passes (with_memory there d) (memories_in is) →
    any_memory (with_memory there d) is ≡ after memory_passes there (cons_option (memory_of d) (memories_in is))
unfolding after
memories_step there (ImportFunc index) is e = e
memories_step there (ImportTable limits) is e = e
memories_step there (ImportMemory limits) is e = e
memories_step there (ImportGlobal type) is e = e

memory_after : (there : Bool) (is : List Import) → any_memory there is ≡ after memory_passes there (memories_in is)
unfolding after
memory_after there [] = refl
memory_after there (i ∷ is) = memories_step there i.desc is (memory_after (with_memory there i.desc) is)

-- what the imports of a list are to be
record Imported (types : ℕ) (table memory : Bool) (is : List Import) : Type 0 where
  funcs : All (λ index. index < types) (funcs_in is)
  tables : at_most_one table_passes table (tables_in is) ≡ true
  memories : at_most_one memory_passes memory (memories_in is) ≡ true

below_cons : (types index : ℕ) (indices : List ℕ) → index < types → All (λ index. index < types) indices → All (λ index. index < types) (index ∷ indices)
below_cons types index indices lt h = All-cons (λ index. index < types) index indices lt h

imported_step : (types : ℕ) (table memory : Bool) (i : Import) (d : ImportDesc) (is : List Import) → import_passes types table memory d ≡ true → Imported types (with_table table d) (with_memory memory d) is →
    Imported types table memory (record i { desc = d } ∷ is)
imported_step types table memory i (ImportFunc index) is e h = record { funcs = below_cons types index (funcs_in is) (below_of index types e) h.funcs; tables = h.tables; memories = h.memories }
imported_step types table memory i (ImportTable limits) is e h =
    let p = both (not table) (table_passes limits) e in
    record { funcs = h.funcs; tables = join_true (not table) (table_passes limits && at_most_one table_passes true (tables_in is)) p.0 (join_true (table_passes limits) (at_most_one table_passes true (tables_in is)) p.1 h.tables); memories = h.memories }
imported_step types table memory i (ImportMemory limits) is e h =
    let p = both (not memory) (memory_passes limits) e in
    record { funcs = h.funcs; tables = h.tables; memories = join_true (not memory) (memory_passes limits && at_most_one memory_passes true (memories_in is)) p.0 (join_true (memory_passes limits) (at_most_one memory_passes true (memories_in is)) p.1 h.memories) }
imported_step types table memory i (ImportGlobal type) is e h = record { funcs = h.funcs; tables = h.tables; memories = h.memories }

imported_of : (types : ℕ) (table memory : Bool) (is : List Import) → imports_pass types table memory is ≡ true → Imported types table memory is
imported_of types table memory [] e = record { funcs = All-nil (λ index. index < types); tables = refl; memories = refl }
imported_of types table memory (i ∷ is) e =
    let p = both (import_passes types table memory i.desc) (imports_pass types (with_table table i.desc) (with_memory memory i.desc) is) e in
    imported_step types table memory i i.desc is p.0 (imported_of types (with_table table i.desc) (with_memory memory i.desc) is p.1)

import_step : (types : ℕ) (table memory : Bool) (i : Import) (d : ImportDesc) (is : List Import) → Imported types table memory (record i { desc = d } ∷ is) →
    (import_passes types table memory d ≡ true) × Imported types (with_table table d) (with_memory memory d) is
import_step types table memory i (ImportFunc index) is h =
    (of_below index types (All-head (λ index. index < types) index (funcs_in is) h.funcs), record { funcs = All-tail (λ index. index < types) index (funcs_in is) h.funcs; tables = h.tables; memories = h.memories })
import_step types table memory i (ImportTable limits) is h =
    let p = both (not table) (table_passes limits && at_most_one table_passes true (tables_in is)) h.tables in
    let q = both (table_passes limits) (at_most_one table_passes true (tables_in is)) p.1 in
    (join_true (not table) (table_passes limits) p.0 q.0, record { funcs = h.funcs; tables = q.1; memories = h.memories })
import_step types table memory i (ImportMemory limits) is h =
    let p = both (not memory) (memory_passes limits && at_most_one memory_passes true (memories_in is)) h.memories in
    let q = both (memory_passes limits) (at_most_one memory_passes true (memories_in is)) p.1 in
    (join_true (not memory) (memory_passes limits) p.0 q.0, record { funcs = h.funcs; tables = h.tables; memories = q.1 })
import_step types table memory i (ImportGlobal type) is h = (refl, record { funcs = h.funcs; tables = h.tables; memories = h.memories })

of_imported : (types : ℕ) (table memory : Bool) (is : List Import) → Imported types table memory is → imports_pass types table memory is ≡ true
of_imported types table memory [] h = refl
of_imported types table memory (i ∷ is) h =
    let p = import_step types table memory i i.desc is h in
    join_true (import_passes types table memory i.desc) (imports_pass types (with_table table i.desc) (with_memory memory i.desc) is) p.0 (of_imported types (with_table table i.desc) (with_memory memory i.desc) is p.1)

-- ---- Constant expressions

global_eta : (g : GlobalType) (t : ValType) → g.type ≡ t → g.is_mutable ≡ false → g ≡ record { type = t; is_mutable = false }
global_eta g t e e' = ap (λ t. record g { type = t }) e ∙ ap (λ b. record { type = t; is_mutable = b }) e'

global_of_test : (t : ValType) (o : Option GlobalType) → is_constant t o ≡ true → o ≡ Some (record { type = t; is_mutable = false })
global_of_test t None e = cc
global_of_test t (Some g) e =
    let p = both (same_type g.type t) (not g.is_mutable) e in
    ap Some (global_eta g t (same_type_eq g.type t p.0) (not_true g.is_mutable p.1))

test_of_global : (t : ValType) (o : Option GlobalType) → o ≡ Some (record { type = t; is_mutable = false }) → is_constant t o ≡ true
test_of_global t o e = let P : Option GlobalType → Type 0 = λ o. is_constant t o ≡ true in subst P (sym e) (join_true (same_type t t) true (same_type_of t t refl) refl)

constant_of : (imported : List GlobalType) (is : Instrs) (t : ValType) → constant_passes imported is t ≡ true → IsConstant imported is t
constant_of imported (seq (Plain (Const v)) nothing) t e = same_type_eq (type_of v) t e
constant_of imported (seq (Plain (GlobalGet index)) nothing) t e = global_of_test t (slice_get imported index) e
constant_of imported _ t e = cc

of_constant : (imported : List GlobalType) (is : Instrs) (t : ValType) → IsConstant imported is t → constant_passes imported is t ≡ true
of_constant imported (seq (Plain (Const v)) nothing) t h = same_type_of (type_of v) t h
of_constant imported (seq (Plain (GlobalGet index)) nothing) t h = test_of_global t (slice_get imported index) h
of_constant imported _ t h = absurd h

-- ---- Segments

element_of : (m : Module) (e : Element) → element_passes (length (tables m)) (length (func_type_indices m)) (imported_globals m) e ≡ true → ElementTyped m e
element_of m e h =
    let p = both (nat_lt e.table (length (tables m))) (constant_passes (imported_globals m) e.offset I32 && list_all (λ f. nat_lt f (length (func_type_indices m))) e.funcs) h in
    let q = both (constant_passes (imported_globals m) e.offset I32) (list_all (λ f. nat_lt f (length (func_type_indices m))) e.funcs) p.1 in (
      below_of e.table (length (tables m)) p.0,
      constant_of (imported_globals m) e.offset I32 q.0,
      all_of (λ f. nat_lt f (length (func_type_indices m))) (λ f. f < length (func_type_indices m)) (λ f e. below_of f (length (func_type_indices m)) e) e.funcs q.1,
    )

of_element : (m : Module) (e : Element) → ElementTyped m e → element_passes (length (tables m)) (length (func_type_indices m)) (imported_globals m) e ≡ true
of_element m e h =
    join_true (nat_lt e.table (length (tables m))) (constant_passes (imported_globals m) e.offset I32 && list_all (λ f. nat_lt f (length (func_type_indices m))) e.funcs) (of_below e.table (length (tables m)) h.0)
    (join_true (constant_passes (imported_globals m) e.offset I32) (list_all (λ f. nat_lt f (length (func_type_indices m))) e.funcs) (of_constant (imported_globals m) e.offset I32 h.1)
    (of_all (λ f. nat_lt f (length (func_type_indices m))) (λ f. f < length (func_type_indices m)) (λ f e. of_below f (length (func_type_indices m)) e) e.funcs h.2))

data_of : (m : Module) (d : DataSegment) → data_passes (length (memories m)) (imported_globals m) d ≡ true → DataTyped m d
data_of m d h = let p = both (nat_lt d.memory (length (memories m))) (constant_passes (imported_globals m) d.offset I32) h in
    (below_of d.memory (length (memories m)) p.0, constant_of (imported_globals m) d.offset I32 p.1)

of_data : (m : Module) (d : DataSegment) → DataTyped m d → data_passes (length (memories m)) (imported_globals m) d ≡ true
of_data m d h = join_true (nat_lt d.memory (length (memories m))) (constant_passes (imported_globals m) d.offset I32) (of_below d.memory (length (memories m)) h.0) (of_constant (imported_globals m) d.offset I32 h.1)

-- ---- The start function

empty_of : {X : Type 0} (xs : List X) → not (is_not_empty xs) ≡ true → xs ≡ []
empty_of [] e = refl
empty_of (x ∷ xs) e = cc

nothing_of : (o : Option FuncType) → takes_nothing o ≡ true → o ≡ Some (record { params = []; results = [] })
nothing_of None e = cc
nothing_of (Some t) e =
    let p = both (not (is_not_empty t.params)) (not (is_not_empty t.results)) e in
    ap (λ ps. Some (record { params = ps; results = t.results })) (empty_of t.params p.0) ∙ ap (λ rs. Some (record { params = []; results = rs })) (empty_of t.results p.1)

then_some : {X Y : Type 0} (f : X → Option Y) (o : Option X) (y : Y) → option_and_then f o ≡ Some y → (x : X) × (o ≡ Some x) × (f x ≡ Some y)
then_some f None y e = cc
then_some f (Some x) y e = (x, refl, e)

start_of : (m : Module) (start : Option ℕ) → start_passes m.types (func_type_indices m) start ≡ true → IfSome start (StartTyped m)
start_of m None e = tt
start_of m (Some f) e = then_some (slice_get m.types) (slice_get (func_type_indices m) f) _ (nothing_of _ e)

of_start : (m : Module) (start : Option ℕ) → IfSome start (StartTyped m) → start_passes m.types (func_type_indices m) start ≡ true
of_start m None h = refl
of_start m (Some f) (index, e, e') = let P : Option FuncType → Type 0 = λ o. takes_nothing o ≡ true in subst P (sym (ap (option_and_then (slice_get m.types)) e ∙ e')) refl

-- ---- Exports

export_of : (m : Module) (d : ExportDesc) → export_passes (length (func_type_indices m)) (length (tables m)) (length (memories m)) (length (globals m)) d ≡ true → ExportTyped m d
export_of m (ExportFunc index) e = below_of index _ e
export_of m (ExportTable index) e = below_of index _ e
export_of m (ExportMemory index) e = below_of index _ e
export_of m (ExportGlobal index) e = below_of index _ e

of_export : (m : Module) (d : ExportDesc) → ExportTyped m d → export_passes (length (func_type_indices m)) (length (tables m)) (length (memories m)) (length (globals m)) d ≡ true
of_export m (ExportFunc index) h = of_below index _ h
of_export m (ExportTable index) h = of_below index _ h
of_export m (ExportMemory index) h = of_below index _ h
of_export m (ExportGlobal index) h = of_below index _ h

-- no export has the name
unnamed : Name → List Export → Type 0
unnamed n es = All (λ e. n ≢ e.name) es

other_name : (a b : Name) → bytes_eq a b ≡ false → a ≢ b
other_name a b h e = false_true (bytes_eq a b) h ((bytes_eq-Decides a b).1 e)
  where
    false_true : (b : Bool) → b ≡ false → b ≡ true → ⊥
    false_true true p q = cc
    false_true false p q = cc

false_of : (a b : Name) → a ≢ b → bytes_eq a b ≡ false
false_of a b h = at (bytes_eq a b) (λ e. h ((bytes_eq-Decides a b).0 e))
  where
    at : (b : Bool) → (b ≡ true → ⊥) → b ≡ false
    at true k = absurd (k refl)
    at false k = refl

-- no earlier name is the name
none_named : (n : Name) (earlier : List Name) → list_any (λ e. bytes_eq e n) earlier ≡ false → All (λ e. e ≢ n) earlier
none_named n [] e = All-nil (λ e. e ≢ n)
none_named n (x ∷ xs) e =
    let p = either_false (bytes_eq x n) (list_any (λ e. bytes_eq e n) xs) e in
    All-cons (λ e. e ≢ n) x xs (other_name x n p.0) (none_named n xs p.1)
  where
    either_false : (a b : Bool) → (a || b) ≡ false → (a ≡ false) × (b ≡ false)
    either_false true b e = cc
    either_false false b e = (refl, e)

named_none : (n : Name) (earlier : List Name) → All (λ e. e ≢ n) earlier → list_any (λ e. bytes_eq e n) earlier ≡ false
named_none n [] h = refl
named_none n (x ∷ xs) h = neither (bytes_eq x n) (list_any (λ e. bytes_eq e n) xs) (false_of x n (All-head (λ e. e ≢ n) x xs h)) (named_none n xs (All-tail (λ e. e ≢ n) x xs h))
  where
    neither : (a b : Bool) → a ≡ false → b ≡ false → (a || b) ≡ false
    neither true b p q = cc
    neither false b p q = q

left : (P : Name → Type 0) (n : Name) (xs : List Name) → All P (xs ++ n ∷ []) → All P xs
left P n [] h = All-nil P
left P n (x ∷ xs) h = All-cons P x xs (All-head P x (xs ++ n ∷ []) h) (left P n xs (All-tail P x (xs ++ n ∷ []) h))

last : (P : Name → Type 0) (n : Name) (xs : List Name) → All P (xs ++ n ∷ []) → P n
last P n [] h = All-head P n [] h
last P n (x ∷ xs) h = last P n xs (All-tail P x (xs ++ n ∷ []) h)

module _ (there : ExportDesc → Bool) (There : ExportDesc → Type 0) where
  -- the exports differ from earlier names
  Apart : List Name → List Export → Type 0
  Apart earlier es = All (λ (e : Export). All (λ n. n ≢ e.name) earlier) es

  apart_more : (earlier : List Name) (n : Name) (es : List Export) → Apart (earlier ++ n ∷ []) es → Apart earlier es × All (λ (e : Export). n ≢ e.name) es
  unfolding Apart
  apart_more earlier n es h = (λ k d lt. left (λ n. n ≢ (get_or es k d).name) n earlier (h k d lt), λ k d lt. last (λ n. n ≢ (get_or es k d).name) n earlier (h k d lt))

  more_apart : (earlier : List Name) (n : Name) (es : List Export) → Apart earlier es → All (λ (e : Export). n ≢ e.name) es → Apart (earlier ++ n ∷ []) es
  unfolding Apart
  more_apart earlier n es h h' = λ k d lt. let e = get_or es k d in All-append (λ n. n ≢ e.name) earlier (n ∷ []) (h k d lt) (All-cons (λ n. n ≢ e.name) n [] (h' k d lt) (All-nil (λ n. n ≢ e.name)))

  exports_of : ((d : ExportDesc) → there d ≡ true → There d) → (earlier : List Name) (es : List Export) → exports_pass there earlier es ≡ true →
      Apart earlier es × AllPairs (λ (a b : Export). a.name ≢ b.name) es × All (λ (e : Export). There e.desc) es
  unfolding Apart
  exports_of k earlier [] e = (All-nil (λ (e : Export). All (λ n. n ≢ e.name) earlier), λ i j d lt lt'. absurd (omega arith), All-nil (λ (e : Export). There e.desc))
  exports_of k earlier (x ∷ es) e =
      let p = both (not (list_any (λ n. bytes_eq n x.name) earlier)) (there x.desc && exports_pass there (earlier ++ x.name ∷ []) es) e in
      let q = both (there x.desc) (exports_pass there (earlier ++ x.name ∷ []) es) p.1 in
      let (apart, pairs, all) = exports_of k (earlier ++ x.name ∷ []) es q.1 in
      let r = apart_more earlier x.name es apart in (
        All-cons (λ (e : Export). All (λ n. n ≢ e.name) earlier) x es (none_named x.name earlier (not_true _ p.0)) r.0,
        AllPairs-cons (λ (a b : Export). a.name ≢ b.name) x es r.1 pairs,
        All-cons (λ (e : Export). There e.desc) x es (k x.desc q.0) all,
      )

  of_exports : ((d : ExportDesc) → There d → there d ≡ true) → (earlier : List Name) (es : List Export) → Apart earlier es → AllPairs (λ (a b : Export). a.name ≢ b.name) es → All (λ (e : Export). There e.desc) es →
      exports_pass there earlier es ≡ true
  unfolding Apart
  of_exports k earlier [] apart pairs all = refl
  of_exports k earlier (x ∷ es) apart pairs all =
      let later : AllPairs (λ (a b : Export). a.name ≢ b.name) es = λ i j d lt lt'. pairs (suc i) (suc j) d (omega arith) (omega arith) in
      let first : All (λ (e : Export). x.name ≢ e.name) es = λ j d lt. pairs 0 (suc j) d (omega arith) (omega arith) in
      let rest = All-tail (λ (e : Export). All (λ n. n ≢ e.name) earlier) x es apart in
      join_true (not (list_any (λ n. bytes_eq n x.name) earlier)) (there x.desc && exports_pass there (earlier ++ x.name ∷ []) es)
      (true_not _ (named_none x.name earlier (All-head (λ (e : Export). All (λ n. n ≢ e.name) earlier) x es apart)))
      (join_true (there x.desc) (exports_pass there (earlier ++ x.name ∷ []) es) (k x.desc (All-head (λ (e : Export). There e.desc) x es all))
      (of_exports k (earlier ++ x.name ∷ []) es (more_apart earlier x.name es rest first) later (All-tail (λ (e : Export). There e.desc) x es all)))

-- ---- Bodies

pub body_of : (spaces : Spaces) (f : Func) → body_passes spaces f ≡ true → BodyTyped spaces f
body_of spaces f e =
    let type = type_at spaces.types f.type_index in
    let c = context_of spaces type f.locals in
    ended (result_of type.results) (run c f.body empty) (Typed c f.body) (run_some f.body c empty) e

pub of_body : (spaces : Spaces) (f : Func) → BodyTyped spaces f → body_passes spaces f ≡ true
of_body spaces f t =
    let type = type_at spaces.types f.type_index in
    let c = context_of spaces type f.locals in
    ends_gives (result_of type.results) (run c f.body empty) (run_gives f.body c empty [] (of (result_of type.results)) t refl)

-- ---- Modules

module _ (m : Module) where
  -- the parts of the test, in their order
  record Passed : Type 0 where
    types : list_all type_passes m.types ≡ true
    imports : imports_pass (length m.types) false false m.imports ≡ true
    funcs : list_all (func_passes (length m.types)) m.funcs ≡ true
    own_tables : at_most_one table_passes (any_table false m.imports) m.tables ≡ true
    own_memories : at_most_one memory_passes (any_memory false m.imports) m.memories ≡ true
    own_globals : list_all (global_passes (imported_globals m)) m.globals ≡ true
    elements : list_all (element_passes (length (tables m)) (length (func_type_indices m)) (imported_globals m)) m.elements ≡ true
    datas : list_all (data_passes (length (memories m)) (imported_globals m)) m.datas ≡ true
    start : start_passes m.types (func_type_indices m) m.start ≡ true
    exports : exports_pass (export_passes (length (func_type_indices m)) (length (tables m)) (length (memories m)) (length (globals m))) [] m.exports ≡ true
    bodies : list_all (body_passes (spaces_of m)) m.funcs ≡ true

  passed_of : module_passes m ≡ true → Passed
  passed_of e =
      let heads = both _ _ e in
      let rest = both _ _ heads.1 in
      let p1 = both _ _ heads.0 in
      let p2 = both _ _ p1.1 in
      let p3 = both _ _ p2.1 in
      let p4 = both _ _ p3.1 in
      let p6 = both _ _ rest.0 in
      let p7 = both _ _ p6.1 in
      let p8 = both _ _ p7.1 in
      let p9 = both _ _ p8.1 in
      record { types = p1.0; imports = p2.0; funcs = p3.0; own_tables = p4.0; own_memories = p4.1; own_globals = p6.0; elements = p7.0; datas = p8.0; start = p9.0; exports = p9.1; bodies = rest.1 }

  pub typed_of : module_passes m ≡ true → ModuleTyped m
  typed_of e =
      let h = passed_of e in
      let imported = imported_of (length m.types) false false m.imports h.imports in
      let one_tables = one_append table_passes false (tables_in m.imports) m.tables imported.tables (rw (sym (table_after false m.imports)) h.own_tables) in
      let one_memories = one_append memory_passes false (memories_in m.imports) m.memories imported.memories (rw (sym (memory_after false m.imports)) h.own_memories) in
      let all_tables = one_of table_passes LimitsTyped limits_of (tables m) one_tables in
      let all_memories = one_of memory_passes MemoryTyped memory_of_test (memories m) one_memories in
      let exports = exports_of (export_passes (length (func_type_indices m)) (length (tables m)) (length (memories m)) (length (globals m))) (ExportTyped m) (export_of m) [] m.exports h.exports in
      record {
        type_indices = All-append (λ i. i < length m.types) (funcs_in m.imports) (map (λ f. f.type_index) m.funcs) imported.funcs (own_indices (length m.types) m.funcs h.funcs);
        one_result = all_of type_passes (λ t. length t.results ≤ 1) (λ t e. most_of (length t.results) 1 e) m.types h.types;
        one_table = all_tables.0;
        one_memory = all_memories.0;
        table_limits = all_tables.1;
        memory_limits = all_memories.1;
        global_inits = all_of (global_passes (imported_globals m)) (GlobalTyped m) (λ g e. constant_of (imported_globals m) g.init g.type.type e) m.globals h.own_globals;
        distinct_exports = exports.1;
        export_indices = exports.2;
        start_func = start_of m m.start h.start;
        element_segments = all_of (element_passes (length (tables m)) (length (func_type_indices m)) (imported_globals m)) (ElementTyped m) (element_of m) m.elements h.elements;
        data_segments = all_of (data_passes (length (memories m)) (imported_globals m)) (DataTyped m) (data_of m) m.datas h.datas;
        bodies = all_of (body_passes (spaces_of m)) (BodyTyped (spaces_of m)) (body_of (spaces_of m)) m.funcs h.bodies;
      }
    where
      own_indices : (types : ℕ) (fs : List Func) → list_all (func_passes types) fs ≡ true → All (λ i. i < types) (map (λ f. f.type_index) fs)
      own_indices types [] e = All-nil (λ i. i < types)
      own_indices types (f ∷ fs) e = let p = both (func_passes types f) (list_all (func_passes types) fs) e in
          All-cons (λ i. i < types) f.type_index (map (λ f. f.type_index) fs) (below_of f.type_index types p.0) (own_indices types fs p.1)

  pub of_typed : ModuleTyped m → module_passes m ≡ true
  unfolding Apart
  of_typed h =
      let indices = split (λ i. i < length m.types) (funcs_in m.imports) (map (λ f. f.type_index) m.funcs) h.type_indices in
      let one_tables = one_split table_passes false (tables_in m.imports) m.tables (of_one table_passes LimitsTyped of_limits (tables m) h.one_table h.table_limits) in
      let one_memories = one_split memory_passes false (memories_in m.imports) m.memories (of_one memory_passes MemoryTyped test_of_memory (memories m) h.one_memory h.memory_limits) in
      join_true _ _ (join_true _ _ (of_all type_passes (λ t. length t.results ≤ 1) (λ t e. of_most (length t.results) 1 e) m.types h.one_result)
      (join_true _ _ (of_imported (length m.types) false false m.imports (record { funcs = indices.0; tables = one_tables.0; memories = one_memories.0 }))
      (join_true _ _ (own_passes (length m.types) m.funcs indices.1)
      (join_true _ _ (ap (λ b. at_most_one table_passes b m.tables) (table_after false m.imports) ∙ one_tables.1)
      (ap (λ b. at_most_one memory_passes b m.memories) (memory_after false m.imports) ∙ one_memories.1)))))
      (join_true _ _ (join_true _ _ (of_all (global_passes (imported_globals m)) (GlobalTyped m) (λ g e. of_constant (imported_globals m) g.init g.type.type e) m.globals h.global_inits)
      (join_true _ _ (of_all (element_passes (length (tables m)) (length (func_type_indices m)) (imported_globals m)) (ElementTyped m) (of_element m) m.elements h.element_segments)
      (join_true _ _ (of_all (data_passes (length (memories m)) (imported_globals m)) (DataTyped m) (of_data m) m.datas h.data_segments)
      (join_true _ _ (of_start m m.start h.start_func)
      (of_exports (export_passes (length (func_type_indices m)) (length (tables m)) (length (memories m)) (length (globals m))) (ExportTyped m) (of_export m) [] m.exports
      (λ k d lt. All-nil (λ n. n ≢ (get_or m.exports k d).name)) h.distinct_exports h.export_indices)))))
      (of_all (body_passes (spaces_of m)) (BodyTyped (spaces_of m)) (of_body (spaces_of m)) m.funcs h.bodies))
    where
      split : (P : ℕ → Type 0) (xs ys : List ℕ) → All P (xs ++ ys) → All P xs × All P ys
      split P [] ys h = (All-nil P, h)
      split P (x ∷ xs) ys h = let p = split P xs ys (All-tail P x (xs ++ ys) h) in (All-cons P x xs (All-head P x (xs ++ ys) h) p.0, p.1)

      own_passes : (types : ℕ) (fs : List Func) → All (λ i. i < types) (map (λ f. f.type_index) fs) → list_all (func_passes types) fs ≡ true
      own_passes types [] h = refl
      own_passes types (f ∷ fs) h = join_true (func_passes types f) (list_all (func_passes types) fs) (of_below f.type_index types (All-head (λ i. i < types) f.type_index (map (λ f. f.type_index) fs) h))
          (own_passes types fs (All-tail (λ i. i < types) f.type_index (map (λ f. f.type_index) fs) h))
