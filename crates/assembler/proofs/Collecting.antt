-- Fields from the last to the first.
use Rattle.std.proofs.Common.{◌≡◌, ℕ, zero, suc, ◌+◌, ◌<◌, ◌≤◌, Bool, true, false, List, [], ◌∷◌, ◌++◌, length, get_or, drop, map, Some, None, refl, sym, ap, ◌∙◌, subst, arith}
use Rattle.std.specs.Prelude.{cond, is_none, option_map, option_and_then}
use Rattle.std.specs.List.{list_all}
use Rattle.std.proofs.lemmas.Option.{none-some, same_Some}
use Rattle.std.proofs.Math.ListN.{drop_of_length-le}
use Rattle.std.proofs.lemmas.List.{drop-map, drop_more}
use Rattle.std.proofs.lemmas.List.Folds.{list_all-append}
use Rattle.spec_modules.specs.Syntax as S
use Rattle.spec_modules.specs.Limits.{both, first, second, limits_fit, import_fits, global_fits, export_fits, element_fits, data_fits}
use Rattle.spec_text.specs.FieldsOfBytes as N
use Rattle.spec_text.specs.Spaces.{Spaces}
use Rattle.spec_text.specs.Fields.{count_imported}
use Rattle.text_resolve.specs.Types.{is_empty}
use Rattle.text_fields.specs.Parts.{FieldPart, NoPart, ImportPart, FuncPart, TablePart, MemoryPart, GlobalPart, ExportPart, StartPart, ElementPart, DataPart, part_at, part_fits, body_fits}
use Rattle.assembler.specs.ModuleParts.{only_types, put_in, next_func, make_at}
use Rattle.assembler.specs.FunctionCounts.{defined_funcs, count_defined, count_funcs}
use Rattle.assembler.specs.PartsView.{with_types, AreInRange}

-- ---- numbers of functions

next_is : (x : N.Field) (f : ℕ) → next_func x f ≡ f + defined_funcs x
next_is (N.FuncField name exports w locals body) f = omega arith
next_is (N.TypeField name ps rs) f = omega arith
next_is (N.ImportField a b name desc) f = omega arith
next_is (N.TableField name b) f = omega arith
next_is (N.MemoryField name b) f = omega arith
next_is (N.GlobalField name t init) f = omega arith
next_is (N.ExportField item kind i) f = omega arith
next_is (N.StartField i) f = omega arith
next_is (N.ElemField i flats is) f = omega arith
next_is (N.DataField i flats bytes) f = omega arith

pub split_defined : {X : Type 0} (f : X → N.Field) (xs : List X) (j : ℕ) (x : X) → j < length xs → x ≡ get_or xs j x → count_defined (map f (drop j xs)) ≡ defined_funcs (f x) + count_defined (map f (drop (j + 1) xs))
split_defined f xs j x l at = ap (λ l. count_defined (map f l)) (drop_more xs j x l ∙ ap (λ y. y ∷ drop (j + 1) xs) (sym at))

pub fewer_defined : {X : Type 0} (f : X → N.Field) (xs : List X) (i : ℕ) → count_defined (map f (drop i xs)) ≤ count_defined (map f xs)
fewer_defined f [] zero = omega arith
fewer_defined f [] (suc i) = omega arith
fewer_defined f (x ∷ xs) zero = omega arith
fewer_defined f (x ∷ xs) (suc i) = omega (arith, fewer_defined f xs i)

-- the number of the next function does not fall below 0
pub enough : {X : Type 0} (f : X → N.Field) (xs : List X) (j i : ℕ) (x : X) (func imported : ℕ) → j < length xs → x ≡ get_or xs j x → i ≡ j + 1
    → func + count_defined (map f (drop i xs)) ≡ imported + count_defined (map f xs) → defined_funcs (f x) ≤ func
enough f xs j i x func imported l at above counted =
    let split = split_defined f xs j x l at in
    let same : count_defined (map f (drop i xs)) ≡ count_defined (map f (drop (j + 1) xs)) = ap (λ k. count_defined (map f (drop k xs))) above in
    omega (arith, split, same, counted, fewer_defined f xs j)

pub counted_down : {X : Type 0} (f : X → N.Field) (xs : List X) (j i : ℕ) (x : X) (func next imported : ℕ) → j < length xs → x ≡ get_or xs j x → i ≡ j + 1
    → next ≡ func + defined_funcs (f x) → next + count_defined (map f (drop i xs)) ≡ imported + count_defined (map f xs) → func + count_defined (map f (drop j xs)) ≡ imported + count_defined (map f xs)
counted_down f xs j i x func next imported l at above number counted =
    let split = split_defined f xs j x l at in
    let same : count_defined (map f (drop i xs)) ≡ count_defined (map f (drop (j + 1) xs)) = ap (λ k. count_defined (map f (drop k xs))) above in
    omega (arith, split, same, number, counted)

all_of_both : (fs : List N.Field) → count_funcs fs ≡ count_imported fs + count_defined fs
all_of_both [] = refl
all_of_both (x ∷ fs) = omega (arith, all_of_both fs)

-- behind the last field
pub begun : {X : Type 0} (f : X → N.Field) (xs : List X) (n : ℕ) → n ≡ count_funcs (map f xs) → n + count_defined (map f (drop (length xs) xs)) ≡ count_imported (map f xs) + count_defined (map f xs)
begun f xs n e =
    let none : count_defined (map f (drop (length xs) xs)) ≡ 0 = ap (λ l. count_defined (map f l)) (drop_of_length-le xs (omega arith)) in
    omega (arith, e, none, all_of_both (map f xs))

pub no_fields_left : {X : Type 0} (f : X → N.Field) (s : Spaces) (xs : List X) (n : ℕ) → make_at s (map f (drop (length xs) xs)) n ≡ Some (only_types s.types)
no_fields_left f s xs n = ap (λ l. make_at s (map f l) n) (drop_of_length-le xs (omega arith))

-- ---- a module with types

typed_unless : (ts : List S.FuncType) (b : Bool) (n : S.Module) → cond b (Some (with_types ts n)) None ≡ option_map (with_types ts) (cond b (Some n) None)
typed_unless ts true n = refl
typed_unless ts false n = refl

typed : (ts : List S.FuncType) (p : FieldPart) (m : S.Module) → put_in p (with_types ts m) ≡ option_map (with_types ts) (put_in p m)
typed ts NoPart m = refl
typed ts (ImportPart i) m = refl
typed ts (FuncPart g exports) m = typed_unless ts (is_empty m.imports) (record m { funcs = g ∷ m.funcs; exports = exports ++ m.exports })
typed ts (TablePart l) m = typed_unless ts (is_empty m.imports) (record m { tables = l ∷ m.tables })
typed ts (MemoryPart l) m = typed_unless ts (is_empty m.imports) (record m { memories = l ∷ m.memories })
typed ts (GlobalPart g) m = typed_unless ts (is_empty m.imports) (record m { globals = g ∷ m.globals })
typed ts (ExportPart e) m = refl
typed ts (StartPart n) m = typed_unless ts (is_none m.start) (record m { start = Some n })
typed ts (ElementPart e) m = refl
typed ts (DataPart d) m = refl

pub put_typed : (ts : List S.FuncType) (p : FieldPart) (m n : S.Module) → put_in p m ≡ Some n → put_in p (with_types ts m) ≡ Some (with_types ts n)
put_typed ts p m n e = typed ts p m ∙ ap (option_map (with_types ts)) e

-- ---- one field more

split_fields : {X : Type 0} (f : X → N.Field) (xs : List X) (j : ℕ) (x : X) → j < length xs → x ≡ get_or xs j x → map f (drop j xs) ≡ f x ∷ map f (drop (j + 1) xs)
split_fields f xs j x l at = ap (map f) (drop_more xs j x l ∙ ap (λ y. y ∷ drop (j + 1) xs) (sym at))

behind_field : {X : Type 0} (f : X → N.Field) (s : Spaces) (xs : List X) (j i : ℕ) (x : X) (func next : ℕ) (m : S.Module) → i ≡ j + 1 → next ≡ func + defined_funcs (f x)
    → make_at s (map f (drop i xs)) next ≡ Some m → make_at s (map f (drop (j + 1) xs)) (next_func (f x) func) ≡ Some m
behind_field f s xs j i x func next m above number rest =
    ap (make_at s (map f (drop (j + 1) xs))) (next_is (f x) func ∙ sym number) ∙ ap (λ k. make_at s (map f (drop k xs)) next) (sym above) ∙ rest

pub one_more : {X : Type 0} (f : X → N.Field) (s : Spaces) (xs : List X) (j i : ℕ) (x : X) (func next : ℕ) (ts : List S.FuncType) (p : FieldPart) (m n : S.Module)
    → j < length xs → x ≡ get_or xs j x → i ≡ j + 1 → next ≡ func + defined_funcs (f x) → make_at s (map f (drop i xs)) next ≡ Some (with_types ts m)
    → part_at s func (f x) ≡ Some p → put_in p m ≡ Some n → make_at s (map f (drop j xs)) func ≡ Some (with_types ts n)
one_more f s xs j i x func next ts p m n l at above number rest part put =
    ap (λ l. make_at s l func) (split_fields f xs j x l at)
    ∙ ap (option_and_then (λ (m : S.Module). option_and_then (λ (p : FieldPart). put_in p m) (part_at s func (f x)))) (behind_field f s xs j i x func next (with_types ts m) above number rest)
    ∙ ap (option_and_then (λ (p : FieldPart). put_in p (with_types ts m))) part ∙ put_typed ts p m n put

-- ---- no module

none_behind : (s : Spaces) (fs : List N.Field) (i func whole : ℕ) → func + count_defined (drop i fs) ≡ whole + count_defined fs → make_at s (drop i fs) func ≡ None → make_at s fs whole ≡ None
none_behind s fs zero func whole number e = let same : func ≡ whole = omega (arith, number) in ap (make_at s fs) (sym same) ∙ e
none_behind s [] (suc i) func whole number e = e
none_behind s (x ∷ xs) (suc i) func whole number e =
    let n = next_is x whole in
    let behind : make_at s xs (next_func x whole) ≡ None = none_behind s xs i func (next_func x whole) (omega (arith, number, n)) e in
    ap (option_and_then (λ (m : S.Module). option_and_then (λ (p : FieldPart). put_in p m) (part_at s whole x))) behind

none_from : {X : Type 0} (f : X → N.Field) (s : Spaces) (xs : List X) (j i : ℕ) (x : X) (func next whole : ℕ) → j < length xs → x ≡ get_or xs j x → i ≡ j + 1
    → next ≡ func + defined_funcs (f x) → next + count_defined (map f (drop i xs)) ≡ whole + count_defined (map f xs) → make_at s (map f (drop j xs)) func ≡ None → make_at s (map f xs) whole ≡ None
none_from f s xs j i x func next whole l at above number counted e =
    let split = split_defined f xs j x l at in
    let same : count_defined (map f (drop i xs)) ≡ count_defined (map f (drop (j + 1) xs)) = ap (λ k. count_defined (map f (drop k xs))) above in
    let moved = drop-map f j xs in
    let counts : func + count_defined (drop j (map f xs)) ≡ whole + count_defined (map f xs) = ap (λ l. func + count_defined l) moved ∙ omega (arith, split, same, number, counted) in
    none_behind s (map f xs) j func whole counts (ap (λ l. make_at s l func) moved ∙ e)

-- where a field makes nothing
pub none_of_part : {X : Type 0} (f : X → N.Field) (s : Spaces) (xs : List X) (j i : ℕ) (x : X) (func next whole : ℕ) (m : S.Module)
    → j < length xs → x ≡ get_or xs j x → i ≡ j + 1 → next ≡ func + defined_funcs (f x) → next + count_defined (map f (drop i xs)) ≡ whole + count_defined (map f xs)
    → make_at s (map f (drop i xs)) next ≡ Some m → part_at s func (f x) ≡ None → make_at s (map f xs) whole ≡ None
none_of_part f s xs j i x func next whole m l at above number counted rest part =
    none_from f s xs j i x func next whole l at above number counted
    (ap (λ l. make_at s l func) (split_fields f xs j x l at)
    ∙ ap (option_and_then (λ (m : S.Module). option_and_then (λ (p : FieldPart). put_in p m) (part_at s func (f x)))) (behind_field f s xs j i x func next m above number rest)
    ∙ ap (option_and_then (λ (p : FieldPart). put_in p m)) part)

-- where its part may not stand here
pub none_put : {X : Type 0} (f : X → N.Field) (s : Spaces) (xs : List X) (j i : ℕ) (x : X) (func next whole : ℕ) (ts : List S.FuncType) (p : FieldPart) (m : S.Module)
    → j < length xs → x ≡ get_or xs j x → i ≡ j + 1 → next ≡ func + defined_funcs (f x) → next + count_defined (map f (drop i xs)) ≡ whole + count_defined (map f xs)
    → make_at s (map f (drop i xs)) next ≡ Some (with_types ts m) → part_at s func (f x) ≡ Some p → put_in p m ≡ None → make_at s (map f xs) whole ≡ None
none_put f s xs j i x func next whole ts p m l at above number counted rest part put =
    none_from f s xs j i x func next whole l at above number counted
    (ap (λ l. make_at s l func) (split_fields f xs j x l at)
    ∙ ap (option_and_then (λ (m : S.Module). option_and_then (λ (p : FieldPart). put_in p m) (part_at s func (f x)))) (behind_field f s xs j i x func next (with_types ts m) above number rest)
    ∙ ap (option_and_then (λ (p : FieldPart). put_in p (with_types ts m))) part ∙ typed ts p m ∙ ap (option_map (with_types ts)) put)

-- ---- numbers in range

unless_some : (b : Bool) (m n : S.Module) → cond b (Some m) None ≡ Some n → m ≡ n
unless_some true m n e = same_Some m n e
unless_some false m n e = absurd (none-some n e)

pub range_kept : (p : FieldPart) (m n : S.Module) → part_fits p ≡ true → AreInRange m → put_in p m ≡ Some n → AreInRange n
range_kept NoPart m n fit r e = subst AreInRange (same_Some m n e) r
range_kept (ImportPart i) m n fit r e = subst AreInRange (same_Some (record m { imports = i ∷ m.imports }) n e)
    (record { imports = both (import_fits i) (list_all import_fits m.imports) fit r.imports; bodies = r.bodies; tables = r.tables; memories = r.memories; globals = r.globals; exports = r.exports; start = r.start; elements = r.elements; datas = r.datas })
range_kept (FuncPart g exports) m n fit r e = subst AreInRange (unless_some (is_empty m.imports) (record m { funcs = g ∷ m.funcs; exports = exports ++ m.exports }) n e)
    (record {
      imports = r.imports;
      bodies = both (body_fits g) (list_all body_fits m.funcs) (first (body_fits g) (list_all export_fits exports) fit) r.bodies;
      tables = r.tables;
      memories = r.memories;
      globals = r.globals;
      exports = list_all-append export_fits exports m.exports ∙ both (list_all export_fits exports) (list_all export_fits m.exports) (second (body_fits g) (list_all export_fits exports) fit) r.exports;
      start = r.start;
      elements = r.elements;
      datas = r.datas;
    })
range_kept (TablePart l) m n fit r e = subst AreInRange (unless_some (is_empty m.imports) (record m { tables = l ∷ m.tables }) n e)
    (record { imports = r.imports; bodies = r.bodies; tables = both (limits_fit l) (list_all limits_fit m.tables) fit r.tables; memories = r.memories; globals = r.globals; exports = r.exports; start = r.start; elements = r.elements; datas = r.datas })
range_kept (MemoryPart l) m n fit r e = subst AreInRange (unless_some (is_empty m.imports) (record m { memories = l ∷ m.memories }) n e)
    (record { imports = r.imports; bodies = r.bodies; tables = r.tables; memories = both (limits_fit l) (list_all limits_fit m.memories) fit r.memories; globals = r.globals; exports = r.exports; start = r.start; elements = r.elements; datas = r.datas })
range_kept (GlobalPart g) m n fit r e = subst AreInRange (unless_some (is_empty m.imports) (record m { globals = g ∷ m.globals }) n e)
    (record { imports = r.imports; bodies = r.bodies; tables = r.tables; memories = r.memories; globals = both (global_fits g) (list_all global_fits m.globals) fit r.globals; exports = r.exports; start = r.start; elements = r.elements; datas = r.datas })
range_kept (ExportPart x) m n fit r e = subst AreInRange (same_Some (record m { exports = x ∷ m.exports }) n e)
    (record { imports = r.imports; bodies = r.bodies; tables = r.tables; memories = r.memories; globals = r.globals; exports = both (export_fits x) (list_all export_fits m.exports) fit r.exports; start = r.start; elements = r.elements; datas = r.datas })
range_kept (StartPart k) m n fit r e = subst AreInRange (unless_some (is_none m.start) (record m { start = Some k }) n e)
    (record { imports = r.imports; bodies = r.bodies; tables = r.tables; memories = r.memories; globals = r.globals; exports = r.exports; start = fit; elements = r.elements; datas = r.datas })
range_kept (ElementPart x) m n fit r e = subst AreInRange (same_Some (record m { elements = x ∷ m.elements }) n e)
    (record { imports = r.imports; bodies = r.bodies; tables = r.tables; memories = r.memories; globals = r.globals; exports = r.exports; start = r.start; elements = both (element_fits x) (list_all element_fits m.elements) fit r.elements; datas = r.datas })
range_kept (DataPart d) m n fit r e = subst AreInRange (same_Some (record m { datas = d ∷ m.datas }) n e)
    (record { imports = r.imports; bodies = r.bodies; tables = r.tables; memories = r.memories; globals = r.globals; exports = r.exports; start = r.start; elements = r.elements; datas = both (data_fits d) (list_all data_fits m.datas) fit r.datas })
