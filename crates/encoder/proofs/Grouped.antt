-- The three groups of sections are the shortest spelling.
use Rattle.std.proofs.Common.{◌≡◌, ℕ, List, [], ◌∷◌, ◌++◌, length, map, Option, refl, sym, ap, ap₂, ◌∙◌, append_assoc, arith}
use Rattle.wtypes.specs.declared.FuncType.{FuncType}
use Rattle.wtypes.specs.declared.Limits.{Limits}
use Rattle.spec_modules.specs.Shortest.{shortest, u32_bytes, vector_bytes, sized_bytes, func_type_bytes, import_bytes, table_type_bytes, limits_bytes, global_bytes, export_bytes, start_bytes, element_bytes, code_bytes, data_segment_bytes, list_section_bytes}
use Rattle.module_tree.specs.declared.module.Import.{Import}
use Rattle.module_tree.specs.declared.module.Export.{Export}
use Rattle.module_tree.specs.declared.module.Func.{Func}
use Rattle.module_tree.specs.declared.module.Global.{Global}
use Rattle.module_tree.specs.declared.module.Element.{Element}
use Rattle.module_tree.specs.declared.module.DataSegment.{DataSegment}
use Rattle.module_tree.specs.ModuleView.{module_of, func_type_view, import_view, func_view, limits_view, global_view, export_view, element_view, data_view}
use Rattle.encoder.specs.Groups.{head_bytes, middle_bytes, tail_bytes}
use Rattle.encoder.proofs.Runs.{run_map}

length_map : {X Y : Type 0} (v : X → Y) (xs : List X) → length (map v xs) ≡ length xs
length_map v [] = refl
length_map v (x ∷ xs) = let e = length_map v xs in omega (arith, e)

vector_map : {X Y : Type 0} (f : Y → List ℕ) (v : X → Y) (xs : List X) → vector_bytes f (map v xs) ≡ vector_bytes (λ x. f (v x)) xs
vector_map f v xs = ap₂ (λ n l. u32_bytes n ++ l) (length_map v xs) (run_map f v xs)

section_map : {X Y : Type 0} (id : ℕ) (f : Y → List ℕ) (v : X → Y) (xs : List X) → list_section_bytes id f (map v xs) ≡ list_section_bytes id (λ x. f (v x)) xs
section_map id f v [] = refl
section_map id f v (x ∷ xs) = ap (λ l. id ∷ sized_bytes l) (vector_map f v (x ∷ xs))

-- four, four and four
regroup : (h a b c d e f g s i j k : List ℕ)
    → ((((((((((h ++ a) ++ b) ++ c) ++ d) ++ e) ++ f) ++ g) ++ s) ++ i) ++ j) ++ k ≡ ((((h ++ a) ++ b) ++ c) ++ (((d ++ e) ++ f) ++ g)) ++ (((s ++ i) ++ j) ++ k)
regroup h a b c d e f g s i j k = simp append_assoc

pub shortest_groups : {A : Type 0} (types : List (FuncType A)) (imports : List (Import A)) (funcs : List (Func A)) (tables memories : List Limits) (globals : List (Global A))
    (exports : List (Export A)) (start : Option ℕ) (elements : List (Element A)) (datas : List (DataSegment A))
    → shortest (module_of types imports funcs tables memories globals exports start elements datas)
    ≡ (head_bytes types imports funcs ++ middle_bytes tables memories globals exports) ++ tail_bytes start elements funcs datas
shortest_groups types imports funcs tables memories globals exports start elements datas =
    simp section_map
    (regroup (0x00 ∷ 0x61 ∷ 0x73 ∷ 0x6D ∷ 0x01 ∷ 0x00 ∷ 0x00 ∷ 0x00 ∷ [])
    (list_section_bytes 1 (λ t. func_type_bytes (func_type_view t)) types)
    (list_section_bytes 2 (λ i. import_bytes (import_view i)) imports)
    (list_section_bytes 3 (λ (f : Func _). u32_bytes f.type_index) funcs)
    (list_section_bytes 4 (λ l. table_type_bytes (limits_view l)) tables)
    (list_section_bytes 5 (λ l. limits_bytes (limits_view l)) memories)
    (list_section_bytes 6 (λ g. global_bytes (global_view g)) globals)
    (list_section_bytes 7 (λ e. export_bytes (export_view e)) exports)
    (start_bytes start)
    (list_section_bytes 9 (λ e. element_bytes (element_view e)) elements)
    (list_section_bytes 10 (λ f. code_bytes (func_view f)) funcs)
    (list_section_bytes 11 (λ d. data_segment_bytes (data_view d)) datas))

pub spelled_groups : {A : Type 0} (types : List (FuncType A)) (imports : List (Import A)) (funcs : List (Func A)) (tables memories : List Limits) (globals : List (Global A))
    (exports : List (Export A)) (start : Option ℕ) (elements : List (Element A)) (datas : List (DataSegment A)) (old m1 m2 new : List ℕ)
    → m1 ≡ old ++ head_bytes types imports funcs → m2 ≡ m1 ++ middle_bytes tables memories globals exports → new ≡ m2 ++ tail_bytes start elements funcs datas
    → new ≡ old ++ shortest (module_of types imports funcs tables memories globals exports start elements datas)
spelled_groups types imports funcs tables memories globals exports start elements datas old m1 m2 new e1 e2 e3 =
    let h = head_bytes types imports funcs in
    let m = middle_bytes tables memories globals exports in
    let t = tail_bytes start elements funcs datas in
    let s2 : m2 ≡ old ++ (h ++ m) = e2 ∙ ap (λ l. l ++ m) e1 ∙ append_assoc old h m in
    let s3 : new ≡ old ++ ((h ++ m) ++ t) = e3 ∙ ap (λ l. l ++ t) s2 ∙ append_assoc old (h ++ m) t in
    s3 ∙ ap (λ l. old ++ l) (sym (shortest_groups types imports funcs tables memories globals exports start elements datas))
