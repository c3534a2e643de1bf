-- What fields make, as it is read and by the definition.
use Rattle.std.proofs.Common.{◌≡◌, ℕ, suc, List, [], ◌∷◌, ◌++◌, map, Option, Some, None, refl, sym, ap, ◌∙◌, subst, arith}
use Rattle.std.specs.Prelude.{option_map, option_and_then, cond, is_none, slice_get}
use Rattle.std.proofs.lemmas.Option.{none-some, same_Some}
use Rattle.std.proofs.lemmas.Bool.{cond-true}
use Rattle.std.proofs.lemmas.List.Elements.{All-head, All-tail, All-cons}
use Rattle.spec_modules.specs.Syntax as S
use Rattle.spec_modules.specs.Spells.{ExpressionFits}
use Rattle.spec_text.specs.FieldsOfBytes as N
use Rattle.spec_text.specs.Spaces.{Names, Spaces, AreDistinct}
use Rattle.spec_text.specs.TypeUses.{names_of, types_of, Uses, inline, alone, again, written_type}
use Rattle.spec_text.specs.Instructions.{Body}
use Rattle.spec_text.specs.Fields.{IsLimits, from_minimum, between, IsDesc, IsExport, Makes}
use Rattle.spec_text.specs.Fields as F
use Rattle.wtypes.specs.declared.ValType.{ValType}
use Rattle.text_resolve.specs.Lookup.{u32_at, stands_at, all_stand_at}
use Rattle.text_resolve.proofs.Lookups.{mapped, u32_found, u32_is_found}
use Rattle.text_resolve.proofs.Standing.{chained, stands_is_read, read_stands, all_are_read, read_all_stand}
use Rattle.text_resolve.specs.Types.{use_at, is_empty}
use Rattle.text_resolve.proofs.Plains.{use_is_read, read_use}
use Rattle.text_fields.specs.Parts.{FieldPart, NoPart, ImportPart, FuncPart, TablePart, MemoryPart, GlobalPart, ExportPart, StartPart, ElementPart, DataPart, expression_at, distinct_at, unnamed, names_at, limits, to_maximum, bounds_at, desc_at, kind_at, exported, func_with, func_at, element_with, element_at, data_with, data_at, part_at}
use Rattle.text_fields.proofs.Parting.{expression_found, found_expression, distinct_found, found_distinct}
use Rattle.assembler.specs.ModuleParts.{only_types, unless_imports, put_in, next_func, make_at, ExpressionsFit, ReadingIsExact, ModulesAreOne}

-- ---- expressions within the limits

abbrev InFunc : S.Func → Type 0
InFunc f = ExpressionFits f.body

abbrev InGlobal : S.Global → Type 0
InGlobal g = ExpressionFits g.init

abbrev InElement : S.Element → Type 0
InElement e = ExpressionFits e.offset

abbrev InData : S.DataSegment → Type 0
InData d = ExpressionFits d.offset

-- ---- parts by the definition are read

limits_are_read : {b : N.Bounds} {l : S.Limits} → IsLimits b l → bounds_at b ≡ Some l
limits_are_read (from_minimum {min} {m} u) = ap (option_and_then (λ (k : ℕ). to_maximum k None)) (u32_found min m u)
limits_are_read (between {min} {max} {m} {n} u v) = ap (option_and_then (λ (k : ℕ). to_maximum k (Some max))) (u32_found min m u) ∙ ap (option_map (λ (k : ℕ). limits m (Some k))) (u32_found max n v)

desc_is_read : {s : Spaces} {d : N.Desc} {e : S.ImportDesc} → IsDesc s d e → desc_at s d ≡ Some e
desc_is_read (F.IsDesc.func u) = ap (option_map (λ (i : ℕ). S.ImportFunc i)) (use_is_read u)
desc_is_read (F.IsDesc.table l) = ap (option_map (λ (l : S.Limits). S.ImportTable l)) (limits_are_read l)
desc_is_read (F.IsDesc.memory l) = ap (option_map (λ (l : S.Limits). S.ImportMemory l)) (limits_are_read l)
desc_is_read F.IsDesc.global = refl

kind_is_read : {s : Spaces} {k : N.Kind} {i : N.Index} {e : S.ExportDesc} → IsExport s k i e → kind_at s k i ≡ Some e
kind_is_read (F.IsExport.func st) = ap (option_map (λ (n : ℕ). S.ExportFunc n)) (stands_is_read st)
kind_is_read (F.IsExport.table st) = ap (option_map (λ (n : ℕ). S.ExportTable n)) (stands_is_read st)
kind_is_read (F.IsExport.memory st) = ap (option_map (λ (n : ℕ). S.ExportMemory n)) (stands_is_read st)
kind_is_read (F.IsExport.global st) = ap (option_map (λ (n : ℕ). S.ExportGlobal n)) (stands_is_read st)

names_again : (types : List S.FuncType) (index : N.Index) (ps : List N.Binding) (rs : List ValType) (i : ℕ) → slice_get types i ≡ Some (written_type (record { index = Some index; params = ps; results = rs }))
    → names_of ps ≡ names_at types (record { index = Some index; params = ps; results = rs }) i
names_again types index [] [] i e = sym (ap unnamed e)
names_again types index [] (r ∷ rs) i e = refl
names_again types index (p ∷ ps) rs i e = refl

names_are : {names ns : Names} {types : List S.FuncType} {w : N.TypeUse} {i : ℕ} → Uses names types w i ns → ns ≡ names_at types w i
names_are (inline f) = refl
names_are (alone st e) = sym (ap unnamed e)
names_are {types = types} (again {index} {ps} {rs} {i} st e) = names_again types index ps rs i e

func_is_read : (locals : List N.Binding) {s : Spaces} {i : ℕ} {ns : Names} {w : N.TypeUse} {flats : List N.Flat} {body : S.Instrs} → Uses s.type_names s.types w i ns → AreDistinct (ns ++ names_of locals)
    → Body s (ns ++ names_of locals) [] flats [] body → ExpressionFits body → func_at s w locals flats ≡ Some (func_with i locals body)
func_is_read locals {s} {i} {ns} {w} {flats} {body} u d b fit =
    let rest : ℕ → Names → Option S.Func = λ k names. option_map (func_with k locals) (expression_at s names flats) in
    ap (option_and_then (λ (k : ℕ). option_and_then (rest k) (distinct_at (names_at s.types w k ++ names_of locals)))) (use_is_read u)
    ∙ ap (λ (l : Names). option_and_then (rest i) (distinct_at (l ++ names_of locals))) (sym (names_are u)) ∙ ap (option_and_then (rest i)) (distinct_found (ns ++ names_of locals) d)
    ∙ ap (option_map (func_with i locals)) (expression_found s (ns ++ names_of locals) flats body b fit)

step : (s : Spaces) (x : N.Field) (xs : List N.Field) (f : ℕ) (m : S.Module) (p : FieldPart) (n : Option S.Module) → make_at s xs (next_func x f) ≡ Some m → part_at s f x ≡ Some p → put_in p m ≡ n → make_at s (x ∷ xs) f ≡ n
step s x xs f m p n e a b = ap (option_and_then (λ (m : S.Module). option_and_then (λ (p : FieldPart). put_in p m) (part_at s f x))) e ∙ ap (option_and_then (λ (p : FieldPart). put_in p m)) a ∙ b

no_imports : (m n : S.Module) → m.imports ≡ [] → unless_imports m n ≡ Some n
no_imports m n e = cond-true (is_empty m.imports) (Some n) None (ap is_empty e)

pub made_is_read : {s : Spaces} {fs : List N.Field} {f : ℕ} {m : S.Module} → Makes s fs f m → ExpressionsFit m → make_at s fs f ≡ Some m
made_is_read Makes.end fit = refl
made_is_read {s} (Makes.type {fs} {f} {m} {name} {ps} {rs} mk) fit = step s (N.TypeField name ps rs) fs f m NoPart (Some m) (made_is_read mk fit) refl refl
made_is_read {s} (Makes.import {fs} {f} {m} {from_module} {item} {name} {desc} {d} is mk) fit =
    step s (N.ImportField from_module item name desc) fs f m (ImportPart (record { from_module = from_module; name = item; desc = d })) _
    (made_is_read mk (record { bodies = fit.bodies; globals = fit.globals; elements = fit.elements; datas = fit.datas }))
    (ap (λ (o : Option S.ImportDesc). option_map (λ (i : S.Import). ImportPart i) (option_map (λ (d : S.ImportDesc). record { from_module = from_module; name = item; desc = d }) o)) (desc_is_read is)) refl
made_is_read {s} (Makes.func {fs} {f} {i} {m} {name} {items} {w} {ns} {locals} {flats} {body} none u d b mk) fit =
    let g = func_with i locals body in
    step s (N.FuncField name items w locals flats) fs f m (FuncPart g (map (exported f) items)) _
    (made_is_read mk (record { bodies = All-tail InFunc g m.funcs fit.bodies; globals = fit.globals; elements = fit.elements; datas = fit.datas }))
    (ap (option_map (λ (g : S.Func). FuncPart g (map (exported f) items))) (func_is_read locals u d b (All-head InFunc g m.funcs fit.bodies)))
    (no_imports m (record m { funcs = g ∷ m.funcs; exports = map (exported f) items ++ m.exports }) none)
made_is_read {s} (Makes.table {fs} {f} {m} {name} {b} {l} none is mk) fit =
    step s (N.TableField name b) fs f m (TablePart l) _ (made_is_read mk (record { bodies = fit.bodies; globals = fit.globals; elements = fit.elements; datas = fit.datas }))
    (ap (option_map (λ (l : S.Limits). TablePart l)) (limits_are_read is)) (no_imports m (record m { tables = l ∷ m.tables }) none)
made_is_read {s} (Makes.memory {fs} {f} {m} {name} {b} {l} none is mk) fit =
    step s (N.MemoryField name b) fs f m (MemoryPart l) _ (made_is_read mk (record { bodies = fit.bodies; globals = fit.globals; elements = fit.elements; datas = fit.datas }))
    (ap (option_map (λ (l : S.Limits). MemoryPart l)) (limits_are_read is)) (no_imports m (record m { memories = l ∷ m.memories }) none)
made_is_read {s} (Makes.global {fs} {f} {m} {name} {t} {flats} {init} none b mk) fit =
    step s (N.GlobalField name t flats) fs f m (GlobalPart (record { type = t; init = init })) _ (made_is_read mk (record { bodies = fit.bodies; globals = All-tail InGlobal (record { type = t; init = init }) m.globals fit.globals; elements = fit.elements; datas = fit.datas }))
    (ap (λ (o : Option S.Instrs). option_map (λ (g : S.Global). GlobalPart g) (option_map (λ (is : S.Instrs). record { type = t; init = is }) o)) (expression_found s [] flats init b (All-head InGlobal (record { type = t; init = init }) m.globals fit.globals)))
    (no_imports m (record m { globals = record { type = t; init = init } ∷ m.globals }) none)
made_is_read {s} (Makes.export {fs} {f} {m} {item} {kind} {i} {d} is mk) fit =
    step s (N.ExportField item kind i) fs f m (ExportPart (record { name = item; desc = d })) _ (made_is_read mk (record { bodies = fit.bodies; globals = fit.globals; elements = fit.elements; datas = fit.datas }))
    (ap (λ (o : Option S.ExportDesc). option_map (λ (e : S.Export). ExportPart e) (option_map (λ (d : S.ExportDesc). record { name = item; desc = d }) o)) (kind_is_read is)) refl
made_is_read {s} (Makes.start {fs} {f} {n} {m} {i} none st mk) fit =
    step s (N.StartField i) fs f m (StartPart n) _ (made_is_read mk (record { bodies = fit.bodies; globals = fit.globals; elements = fit.elements; datas = fit.datas }))
    (ap (option_map (λ (n : ℕ). StartPart n)) (stands_is_read st)) (cond-true (is_none m.start) (Some (record m { start = Some n })) None (ap is_none none))
made_is_read {s} (Makes.elem {fs} {f} {t} {m} {i} {flats} {offset} {is} {ns} st b sts mk) fit =
    step s (N.ElemField i flats is) fs f m (ElementPart (element_with t offset ns)) _ (made_is_read mk (record { bodies = fit.bodies; globals = fit.globals; elements = All-tail InElement (element_with t offset ns) m.elements fit.elements; datas = fit.datas }))
    (ap (option_map (λ (e : S.Element). ElementPart e))
    (ap (option_and_then (λ (t : ℕ). option_and_then (λ (offset : S.Instrs). option_map (element_with t offset) (all_stand_at (stands_at s.funcs) is)) (expression_at s [] flats))) (stands_is_read st)
    ∙ ap (option_and_then (λ (offset : S.Instrs). option_map (element_with t offset) (all_stand_at (stands_at s.funcs) is))) (expression_found s [] flats offset b (All-head InElement (element_with t offset ns) m.elements fit.elements))
    ∙ ap (option_map (element_with t offset)) (all_are_read sts))) refl
made_is_read {s} (Makes.data_segment {fs} {f} {n} {m} {i} {flats} {offset} {bytes} st b mk) fit =
    step s (N.DataField i flats bytes) fs f m (DataPart (data_with bytes n offset)) _ (made_is_read mk (record { bodies = fit.bodies; globals = fit.globals; elements = fit.elements; datas = All-tail InData (data_with bytes n offset) m.datas fit.datas }))
    (ap (option_map (λ (d : S.DataSegment). DataPart d))
    (ap (option_and_then (λ (n : ℕ). option_map (data_with bytes n) (expression_at s [] flats))) (stands_is_read st)
    ∙ ap (option_map (data_with bytes n)) (expression_found s [] flats offset b (All-head InData (data_with bytes n offset) m.datas fit.datas)))) refl

pub modules_are_one : ModulesAreOne
modules_are_one s fs f m n a p b q = same_Some m n (sym (made_is_read a p) ∙ made_is_read b q)

-- ---- what is read is by the definition

some_bounds : (min : List ℕ) (max : Option (List ℕ)) (m : ℕ) (l : S.Limits) → u32_at min ≡ Some m → to_maximum m max ≡ Some l → IsLimits (record { min = min; max = max }) l
some_bounds min None m l u e = subst (IsLimits (record { min = min; max = None })) (same_Some (limits m None) l e) (from_minimum (u32_is_found min m u))
some_bounds min (Some max) m l u e =
    let q = mapped (λ (k : ℕ). limits m (Some k)) (u32_at max) l e in
    subst (IsLimits (record { min = min; max = Some max })) q.2 (between (u32_is_found min m u) (u32_is_found max q.0 q.1))

read_limits : (b : N.Bounds) (l : S.Limits) → bounds_at b ≡ Some l → IsLimits b l
read_limits b l e = let c = chained (λ (k : ℕ). to_maximum k b.max) (u32_at b.min) l e in some_bounds b.min b.max c.0 l c.1 c.2

read_desc : (s : Spaces) (d : N.Desc) (e : S.ImportDesc) → desc_at s d ≡ Some e → IsDesc s d e
read_desc s (N.FuncDesc w) e h =
    let q = mapped (λ (i : ℕ). S.ImportFunc i) (use_at s.type_names s.types w) e h in
    let u = read_use s.type_names s.types w.index w.params w.results q.0 q.1 in
    subst (IsDesc s (N.FuncDesc w)) q.2 (F.IsDesc.func u.1)
read_desc s (N.TableDesc b) e h = let q = mapped (λ (l : S.Limits). S.ImportTable l) (bounds_at b) e h in subst (IsDesc s (N.TableDesc b)) q.2 (F.IsDesc.table (read_limits b q.0 q.1))
read_desc s (N.MemoryDesc b) e h = let q = mapped (λ (l : S.Limits). S.ImportMemory l) (bounds_at b) e h in subst (IsDesc s (N.MemoryDesc b)) q.2 (F.IsDesc.memory (read_limits b q.0 q.1))
read_desc s (N.GlobalDesc t) e h = subst (IsDesc s (N.GlobalDesc t)) (same_Some (S.ImportGlobal t) e h) F.IsDesc.global

read_kind : (s : Spaces) (k : N.Kind) (i : N.Index) (e : S.ExportDesc) → kind_at s k i ≡ Some e → IsExport s k i e
read_kind s N.OfFunc i e h = let q = mapped (λ (n : ℕ). S.ExportFunc n) (stands_at s.funcs i) e h in subst (IsExport s N.OfFunc i) q.2 (F.IsExport.func (read_stands s.funcs i q.0 q.1))
read_kind s N.OfTable i e h = let q = mapped (λ (n : ℕ). S.ExportTable n) (stands_at s.tables i) e h in subst (IsExport s N.OfTable i) q.2 (F.IsExport.table (read_stands s.tables i q.0 q.1))
read_kind s N.OfMemory i e h = let q = mapped (λ (n : ℕ). S.ExportMemory n) (stands_at s.memories i) e h in subst (IsExport s N.OfMemory i) q.2 (F.IsExport.memory (read_stands s.memories i q.0 q.1))
read_kind s N.OfGlobal i e h = let q = mapped (λ (n : ℕ). S.ExportGlobal n) (stands_at s.globals i) e h in subst (IsExport s N.OfGlobal i) q.2 (F.IsExport.global (read_stands s.globals i q.0 q.1))

abbrev Fitting : Spaces → List N.Field → ℕ → S.Module → Type 0
Fitting s fs f m = Makes s fs f m × ExpressionsFit m

-- behind a definition there is no import
free : (m n r : S.Module) → unless_imports m n ≡ Some r → (m.imports ≡ []) × (n ≡ r)
free m n r e = by_list m.imports refl
  where
    by_list : (l : List S.Import) → m.imports ≡ l → (m.imports ≡ []) × (n ≡ r)
    by_list [] h = (h, same_Some n r (sym (no_imports m n h) ∙ e))
    by_list (i ∷ l) h = absurd (none-some r (ap (λ (l : List S.Import). cond (is_empty l) (Some n) None) (sym h) ∙ e))

unstarted : (m n r : S.Module) → cond (is_none m.start) (Some n) None ≡ Some r → (m.start ≡ None) × (n ≡ r)
unstarted m n r e = by_start m.start refl
  where
    by_start : (o : Option ℕ) → m.start ≡ o → (m.start ≡ None) × (n ≡ r)
    by_start None h = (h, same_Some n r (ap (λ (o : Option ℕ). cond (is_none o) (Some n) None) (sym h) ∙ e))
    by_start (Some k) h = absurd (none-some r (ap (λ (o : Option ℕ). cond (is_none o) (Some n) None) (sym h) ∙ e))

module _ (s : Spaces) (fs : List N.Field) (f : ℕ) (m0 m : S.Module) where
  read_func : (name : Option (List ℕ)) (items : List (List ℕ)) (w : N.TypeUse) (locals : List N.Binding) (flats : List N.Flat) (p : FieldPart) → Fitting s fs (suc f) m0
      → part_at s f (N.FuncField name items w locals flats) ≡ Some p → put_in p m0 ≡ Some m → Fitting s (N.FuncField name items w locals flats ∷ fs) f m
  read_func name items w locals flats p rest e put =
      let q = mapped (λ (g : S.Func). FuncPart g (map (exported f) items)) (func_at s w locals flats) p e in
      let c = chained (λ (i : ℕ). option_and_then (λ (names : Names). option_map (func_with i locals) (expression_at s names flats)) (distinct_at (names_at s.types w i ++ names_of locals))) (use_at s.type_names s.types w) q.0 q.1 in
      let d = chained (λ (names : Names). option_map (func_with c.0 locals) (expression_at s names flats)) (distinct_at (names_at s.types w c.0 ++ names_of locals)) q.0 c.2 in
      let b = mapped (func_with c.0 locals) (expression_at s d.0 flats) q.0 d.2 in
      let u = read_use s.type_names s.types w.index w.params w.results c.0 c.1 in
      let same : names_at s.types w c.0 ++ names_of locals ≡ u.0 ++ names_of locals = ap (λ (l : Names). l ++ names_of locals) (sym (names_are u.1)) in
      let dis = found_distinct (names_at s.types w c.0 ++ names_of locals) d.0 d.1 in
      let x = found_expression s d.0 flats b.0 b.1 in
      let body = subst (λ (l : Names). Body s l [] flats [] b.0) (sym dis.1 ∙ same) x.0 in
      let apart = subst (λ (l : Names). AreDistinct l) same dis.0 in
      let z = free m0 (record m0 { funcs = func_with c.0 locals b.0 ∷ m0.funcs; exports = map (exported f) items ++ m0.exports }) m
      (ap (λ (g : S.Func). put_in (FuncPart g (map (exported f) items)) m0) b.2 ∙ ap (λ (p : FieldPart). put_in p m0) q.2 ∙ put) in
      subst (Fitting s (N.FuncField name items w locals flats ∷ fs) f) z.1
      (Makes.func z.0 u.1 apart body rest.0, record { bodies = All-cons InFunc (func_with c.0 locals b.0) m0.funcs x.1 rest.1.bodies; globals = rest.1.globals; elements = rest.1.elements; datas = rest.1.datas })

  read_import : (a b : List ℕ) (name : Option (List ℕ)) (desc : N.Desc) (p : FieldPart) → Fitting s fs f m0 → part_at s f (N.ImportField a b name desc) ≡ Some p → put_in p m0 ≡ Some m → Fitting s (N.ImportField a b name desc ∷ fs) f m
  read_import a b name desc p rest e put =
      let q = mapped (λ (i : S.Import). ImportPart i) (option_map (λ (d : S.ImportDesc). record { from_module = a; name = b; desc = d }) (desc_at s desc)) p e in
      let d = mapped (λ (d : S.ImportDesc). record { from_module = a; name = b; desc = d }) (desc_at s desc) q.0 q.1 in
      let z = same_Some (record m0 { imports = record { from_module = a; name = b; desc = d.0 } ∷ m0.imports }) m
      (ap (λ (i : S.Import). put_in (ImportPart i) m0) d.2 ∙ ap (λ (p : FieldPart). put_in p m0) q.2 ∙ put) in
      subst (Fitting s (N.ImportField a b name desc ∷ fs) f) z
      (Makes.import (read_desc s desc d.0 d.1) rest.0, record { bodies = rest.1.bodies; globals = rest.1.globals; elements = rest.1.elements; datas = rest.1.datas })

  read_table : (name : Option (List ℕ)) (b : N.Bounds) (p : FieldPart) → Fitting s fs f m0 → part_at s f (N.TableField name b) ≡ Some p → put_in p m0 ≡ Some m → Fitting s (N.TableField name b ∷ fs) f m
  read_table name b p rest e put =
      let q = mapped (λ (l : S.Limits). TablePart l) (bounds_at b) p e in
      let z = free m0 (record m0 { tables = q.0 ∷ m0.tables }) m (ap (λ (p : FieldPart). put_in p m0) q.2 ∙ put) in
      subst (Fitting s (N.TableField name b ∷ fs) f) z.1
      (Makes.table z.0 (read_limits b q.0 q.1) rest.0, record { bodies = rest.1.bodies; globals = rest.1.globals; elements = rest.1.elements; datas = rest.1.datas })

  read_memory : (name : Option (List ℕ)) (b : N.Bounds) (p : FieldPart) → Fitting s fs f m0 → part_at s f (N.MemoryField name b) ≡ Some p → put_in p m0 ≡ Some m → Fitting s (N.MemoryField name b ∷ fs) f m
  read_memory name b p rest e put =
      let q = mapped (λ (l : S.Limits). MemoryPart l) (bounds_at b) p e in
      let z = free m0 (record m0 { memories = q.0 ∷ m0.memories }) m (ap (λ (p : FieldPart). put_in p m0) q.2 ∙ put) in
      subst (Fitting s (N.MemoryField name b ∷ fs) f) z.1
      (Makes.memory z.0 (read_limits b q.0 q.1) rest.0, record { bodies = rest.1.bodies; globals = rest.1.globals; elements = rest.1.elements; datas = rest.1.datas })

  read_global : (name : Option (List ℕ)) (t : S.GlobalType) (flats : List N.Flat) (p : FieldPart) → Fitting s fs f m0 → part_at s f (N.GlobalField name t flats) ≡ Some p → put_in p m0 ≡ Some m
      → Fitting s (N.GlobalField name t flats ∷ fs) f m
  read_global name t flats p rest e put =
      let q = mapped (λ (g : S.Global). GlobalPart g) (option_map (λ (is : S.Instrs). record { type = t; init = is }) (expression_at s [] flats)) p e in
      let b = mapped (λ (is : S.Instrs). record { type = t; init = is }) (expression_at s [] flats) q.0 q.1 in
      let x = found_expression s [] flats b.0 b.1 in
      let z = free m0 (record m0 { globals = record { type = t; init = b.0 } ∷ m0.globals }) m (ap (λ (g : S.Global). put_in (GlobalPart g) m0) b.2 ∙ ap (λ (p : FieldPart). put_in p m0) q.2 ∙ put) in
      subst (Fitting s (N.GlobalField name t flats ∷ fs) f) z.1
      (Makes.global z.0 x.0 rest.0, record { bodies = rest.1.bodies; globals = All-cons InGlobal (record { type = t; init = b.0 }) m0.globals x.1 rest.1.globals; elements = rest.1.elements; datas = rest.1.datas })

  read_export : (item : List ℕ) (kind : N.Kind) (i : N.Index) (p : FieldPart) → Fitting s fs f m0 → part_at s f (N.ExportField item kind i) ≡ Some p → put_in p m0 ≡ Some m → Fitting s (N.ExportField item kind i ∷ fs) f m
  read_export item kind i p rest e put =
      let q = mapped (λ (e : S.Export). ExportPart e) (option_map (λ (d : S.ExportDesc). record { name = item; desc = d }) (kind_at s kind i)) p e in
      let d = mapped (λ (d : S.ExportDesc). record { name = item; desc = d }) (kind_at s kind i) q.0 q.1 in
      let z = same_Some (record m0 { exports = record { name = item; desc = d.0 } ∷ m0.exports }) m (ap (λ (e : S.Export). put_in (ExportPart e) m0) d.2 ∙ ap (λ (p : FieldPart). put_in p m0) q.2 ∙ put) in
      subst (Fitting s (N.ExportField item kind i ∷ fs) f) z
      (Makes.export (read_kind s kind i d.0 d.1) rest.0, record { bodies = rest.1.bodies; globals = rest.1.globals; elements = rest.1.elements; datas = rest.1.datas })

  read_start : (i : N.Index) (p : FieldPart) → Fitting s fs f m0 → part_at s f (N.StartField i) ≡ Some p → put_in p m0 ≡ Some m → Fitting s (N.StartField i ∷ fs) f m
  read_start i p rest e put =
      let q = mapped (λ (n : ℕ). StartPart n) (stands_at s.funcs i) p e in
      let z = unstarted m0 (record m0 { start = Some q.0 }) m (ap (λ (p : FieldPart). put_in p m0) q.2 ∙ put) in
      subst (Fitting s (N.StartField i ∷ fs) f) z.1
      (Makes.start z.0 (read_stands s.funcs i q.0 q.1) rest.0, record { bodies = rest.1.bodies; globals = rest.1.globals; elements = rest.1.elements; datas = rest.1.datas })

  read_element : (i : N.Index) (flats : List N.Flat) (is : List N.Index) (p : FieldPart) → Fitting s fs f m0 → part_at s f (N.ElemField i flats is) ≡ Some p → put_in p m0 ≡ Some m → Fitting s (N.ElemField i flats is ∷ fs) f m
  read_element i flats is p rest e put =
      let q = mapped (λ (e : S.Element). ElementPart e) (element_at s i flats is) p e in
      let c = chained (λ (t : ℕ). option_and_then (λ (offset : S.Instrs). option_map (element_with t offset) (all_stand_at (stands_at s.funcs) is)) (expression_at s [] flats)) (stands_at s.tables i) q.0 q.1 in
      let d = chained (λ (offset : S.Instrs). option_map (element_with c.0 offset) (all_stand_at (stands_at s.funcs) is)) (expression_at s [] flats) q.0 c.2 in
      let ns = mapped (element_with c.0 d.0) (all_stand_at (stands_at s.funcs) is) q.0 d.2 in
      let x = found_expression s [] flats d.0 d.1 in
      let z = same_Some (record m0 { elements = element_with c.0 d.0 ns.0 ∷ m0.elements }) m (ap (λ (e : S.Element). put_in (ElementPart e) m0) ns.2 ∙ ap (λ (p : FieldPart). put_in p m0) q.2 ∙ put) in
      subst (Fitting s (N.ElemField i flats is ∷ fs) f) z
      (Makes.elem (read_stands s.tables i c.0 c.1) x.0 (read_all_stand s.funcs is ns.0 ns.1) rest.0, record { bodies = rest.1.bodies; globals = rest.1.globals; elements = All-cons InElement (element_with c.0 d.0 ns.0) m0.elements x.1 rest.1.elements; datas = rest.1.datas })

  read_data : (i : N.Index) (flats : List N.Flat) (bytes : List ℕ) (p : FieldPart) → Fitting s fs f m0 → part_at s f (N.DataField i flats bytes) ≡ Some p → put_in p m0 ≡ Some m → Fitting s (N.DataField i flats bytes ∷ fs) f m
  read_data i flats bytes p rest e put =
      let q = mapped (λ (d : S.DataSegment). DataPart d) (data_at s i flats bytes) p e in
      let c = chained (λ (n : ℕ). option_map (data_with bytes n) (expression_at s [] flats)) (stands_at s.memories i) q.0 q.1 in
      let d = mapped (data_with bytes c.0) (expression_at s [] flats) q.0 c.2 in
      let x = found_expression s [] flats d.0 d.1 in
      let z = same_Some (record m0 { datas = data_with bytes c.0 d.0 ∷ m0.datas }) m (ap (λ (e : S.DataSegment). put_in (DataPart e) m0) d.2 ∙ ap (λ (p : FieldPart). put_in p m0) q.2 ∙ put) in
      subst (Fitting s (N.DataField i flats bytes ∷ fs) f) z
      (Makes.data_segment (read_stands s.memories i c.0 c.1) x.0 rest.0, record { bodies = rest.1.bodies; globals = rest.1.globals; elements = rest.1.elements; datas = All-cons InData (data_with bytes c.0 d.0) m0.datas x.1 rest.1.datas })

  read_type : (name : Option (List ℕ)) (ps : List N.Binding) (rs : List ValType) (p : FieldPart) → Fitting s fs f m0 → part_at s f (N.TypeField name ps rs) ≡ Some p → put_in p m0 ≡ Some m → Fitting s (N.TypeField name ps rs ∷ fs) f m
  read_type name ps rs p rest e put =
      let q = same_Some NoPart p e in
      let z = same_Some m0 m (ap (λ (p : FieldPart). put_in p m0) q ∙ put) in
      subst (Fitting s (N.TypeField name ps rs ∷ fs) f) z
      (Makes.type rest.0, rest.1)

-- what is read of the rest, and of the field
record Halves (s : Spaces) (x : N.Field) (xs : List N.Field) (f : ℕ) (m : S.Module) : Type 0 where
  rest : S.Module
  part : FieldPart
  made : make_at s xs (next_func x f) ≡ Some rest
  is_part : part_at s f x ≡ Some part
  put : put_in part rest ≡ Some m

halved : (s : Spaces) (x : N.Field) (xs : List N.Field) (f : ℕ) (m : S.Module) → make_at s (x ∷ xs) f ≡ Some m → Halves s x xs f m
halved s x xs f m e =
    let c = chained (λ (m : S.Module). option_and_then (λ (p : FieldPart). put_in p m) (part_at s f x)) (make_at s xs (next_func x f)) m e in
    let d = chained (λ (p : FieldPart). put_in p c.0) (part_at s f x) m c.2 in
    record { rest = c.0; part = d.0; made = c.1; is_part = d.1; put = d.2 }

pub read_makes : (s : Spaces) (fs : List N.Field) (f : ℕ) (m : S.Module) → make_at s fs f ≡ Some m → Makes s fs f m × ExpressionsFit m
read_makes s [] f m e = subst (Fitting s [] f) (same_Some (only_types s.types) m e) (Makes.end, record { bodies = λ k d l. absurd (omega (arith, l)); globals = λ k d l. absurd (omega (arith, l)); elements = λ k d l. absurd (omega (arith, l)); datas = λ k d l. absurd (omega (arith, l)) })
read_makes s (N.TypeField name ps rs ∷ fs) f m e =
    let h = halved s (N.TypeField name ps rs) fs f m e in read_type s fs f h.rest m name ps rs h.part (read_makes s fs f h.rest h.made) h.is_part h.put
read_makes s (N.ImportField a b name desc ∷ fs) f m e =
    let h = halved s (N.ImportField a b name desc) fs f m e in read_import s fs f h.rest m a b name desc h.part (read_makes s fs f h.rest h.made) h.is_part h.put
read_makes s (N.FuncField name items w locals flats ∷ fs) f m e =
    let h = halved s (N.FuncField name items w locals flats) fs f m e in read_func s fs f h.rest m name items w locals flats h.part (read_makes s fs (suc f) h.rest h.made) h.is_part h.put
read_makes s (N.TableField name b ∷ fs) f m e = let h = halved s (N.TableField name b) fs f m e in read_table s fs f h.rest m name b h.part (read_makes s fs f h.rest h.made) h.is_part h.put
read_makes s (N.MemoryField name b ∷ fs) f m e = let h = halved s (N.MemoryField name b) fs f m e in read_memory s fs f h.rest m name b h.part (read_makes s fs f h.rest h.made) h.is_part h.put
read_makes s (N.GlobalField name t flats ∷ fs) f m e =
    let h = halved s (N.GlobalField name t flats) fs f m e in read_global s fs f h.rest m name t flats h.part (read_makes s fs f h.rest h.made) h.is_part h.put
read_makes s (N.ExportField item kind i ∷ fs) f m e =
    let h = halved s (N.ExportField item kind i) fs f m e in read_export s fs f h.rest m item kind i h.part (read_makes s fs f h.rest h.made) h.is_part h.put
read_makes s (N.StartField i ∷ fs) f m e = let h = halved s (N.StartField i) fs f m e in read_start s fs f h.rest m i h.part (read_makes s fs f h.rest h.made) h.is_part h.put
read_makes s (N.ElemField i flats is ∷ fs) f m e =
    let h = halved s (N.ElemField i flats is) fs f m e in read_element s fs f h.rest m i flats is h.part (read_makes s fs f h.rest h.made) h.is_part h.put
read_makes s (N.DataField i flats bytes ∷ fs) f m e =
    let h = halved s (N.DataField i flats bytes) fs f m e in read_data s fs f h.rest m i flats bytes h.part (read_makes s fs f h.rest h.made) h.is_part h.put

pub reading_is_exact : ReadingIsExact
reading_is_exact s fs f m = ((λ mk fit. made_is_read mk fit), read_makes s fs f m)
