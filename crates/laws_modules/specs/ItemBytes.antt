-- Each byte of the shortest spelling of what a section holds is below 256, where numbers are in range and names are UTF-8.
use Rattle.std.proofs.Common.{◌≡◌, ℕ, ◌+◌, ◌/◌, ◌%◌, ◌<◌, ◌≤◌, Bool, true, false, ◌&&◌, List, [], ◌∷◌, ◌++◌, length, Option, Some, None, refl, subst, ◌∙◌, ⊎_elim, inl, inr, arith}
use Rattle.std.proofs.Math.Utf8.{scalar, scalars, scalar_cases, encode, encodes}
use Rattle.std.specs.List.{list_all}
use Rattle.std.specs.Str.{is_utf8}
use Rattle.std.proofs.lemmas.Bool.{lt-ltb, le-ltb, leb-true, cases_lt}
use Rattle.std.proofs.lemmas.List.Folds.{list_all-append}
use Rattle.std.proofs.lemmas.Str.{IsUtf8-from_is_utf8}
use Rattle.wtypes.specs.declared.ValType.{ValType}
use Rattle.spec_modules.specs.Syntax.{FuncType, Limits, GlobalType, Name, ImportDesc, ImportFunc, ImportTable, ImportMemory, ImportGlobal, ExportDesc, ExportFunc, ExportTable, ExportMemory, ExportGlobal, Import, Func, Global, Export, Element, DataSegment}
use Rattle.spec_modules.specs.Profile.{local_limit}
use Rattle.spec_modules.specs.Limits.{is_u32, is_byte, max_fits, limits_fit, import_desc_fits, import_fits, func_fits, global_fits, export_desc_fits, export_fits, start_fits, element_fits, data_fits, first, second, both}
use Rattle.spec_modules.specs.Opcodes.{type_code}
use Rattle.spec_modules.specs.Shortest.{u32_bytes, vector_bytes, expression_bytes, byte_bytes, name_bytes, value_type_bytes, func_type_bytes, limits_bytes_by, limits_bytes, table_type_bytes, mutability_byte, global_type_bytes, import_desc_bytes, import_bytes, export_desc_bytes, export_bytes, global_bytes, element_bytes, data_segment_bytes, maximal_runs, local_run_bytes, sized_bytes, code_bytes, list_section_bytes, start_bytes}
use Rattle.laws_modules.specs.ShortestBytes.{Bytes, AreBytes, none, front, one, join, byte_then, u32_are_bytes, u32_some, vector_are_bytes, sized_are_bytes, type_is_byte, numbers_are_bytes, expression_are_bytes}
use Rattle.laws_modules.specs.Modules.{import_is_named, export_is_named, some_append, run_fits, runs_are_short}

-- ---- Names

encoded_are_bytes : (c : ℕ) → scalar c ≡ true → Bytes (encode c)
unfolding encode
encoded_are_bytes c e =
    let top : c < 1114112 = ⊎_elim (λ low. omega (arith, low)) (λ high. high.1) (scalar_cases c e) in
    let last = byte_then (128 + c % 64) [] (omega arith) refl in
    let second_last = byte_then (128 + c / 64 % 64) ((128 + c % 64) ∷ []) (omega arith) last in
    elim (cases_lt c 128) [
      | inl l ↦ rw (lt-ltb c 128 l) (byte_then c [] (omega (arith, l)) refl)
      | inr h ↦ elim (cases_lt c 2048) [
        | inl l ↦ rw (le-ltb c 128 h, lt-ltb c 2048 l) (byte_then (192 + c / 64) ((128 + c % 64) ∷ []) (omega (arith, l)) last)
        | inr h2 ↦ elim (cases_lt c 65536) [
          | inl l ↦ rw (le-ltb c 128 h, le-ltb c 2048 h2, lt-ltb c 65536 l) (byte_then (224 + c / 4096) ((128 + c / 64 % 64) ∷ (128 + c % 64) ∷ []) (omega (arith, l)) second_last)
          | inr h3 ↦
              rw (le-ltb c 128 h, le-ltb c 2048 h2, le-ltb c 65536 h3)
              (byte_then (240 + c / 262144) ((128 + c / 4096 % 64) ∷ (128 + c / 64 % 64) ∷ (128 + c % 64) ∷ []) (omega (arith, top))
              (byte_then (128 + c / 4096 % 64) ((128 + c / 64 % 64) ∷ (128 + c % 64) ∷ []) (omega arith) second_last))
        ]
      ]
    ]

all_encoded : (cs : List ℕ) → scalars cs ≡ true → Bytes (encodes cs)
all_encoded [] e = refl
all_encoded (c ∷ cs) e =
    list_all-append is_byte (encode c) (encodes cs)
    ∙ both (list_all is_byte (encode c)) (list_all is_byte (encodes cs)) (encoded_are_bytes c (first _ _ e)) (all_encoded cs (second _ _ e))

utf8_are_bytes : (n : Name) → is_utf8 n ≡ true → Bytes n
utf8_are_bytes n u = let t = IsUtf8-from_is_utf8 n u in subst Bytes t.1.1 (all_encoded t.0 t.1.0)

given_bytes : (bs : List ℕ) → Bytes bs → AreBytes (vector_bytes byte_bytes bs)
given_bytes bs h = vector_are_bytes byte_bytes is_byte one (λ b. omega arith) bs h

name_are_bytes : (n : Name) → is_utf8 n ≡ true → AreBytes (name_bytes n)
name_are_bytes n u = given_bytes n (utf8_are_bytes n u)

-- ---- Types

all_types : (ts : List ValType) → list_all (λ (t : ValType). is_byte (type_code t)) ts ≡ true
all_types [] = refl
all_types (t ∷ ts) = both (is_byte (type_code t)) (list_all (λ (t : ValType). is_byte (type_code t)) ts) (type_is_byte t) (all_types ts)

types_are_bytes : (ts : List ValType) → AreBytes (vector_bytes value_type_bytes ts)
types_are_bytes ts = vector_are_bytes value_type_bytes (λ t. is_byte (type_code t)) (λ t e. one (type_code t) e) (λ t. omega arith) ts (all_types ts)

pub func_type_are_bytes : (t : FuncType) → AreBytes (func_type_bytes t)
func_type_are_bytes t =
    front 0x60 (vector_bytes value_type_bytes t.params ++ vector_bytes value_type_bytes t.results) refl
    (join (vector_bytes value_type_bytes t.params) (vector_bytes value_type_bytes t.results) (types_are_bytes t.params) (types_are_bytes t.results))

limits_by_are_bytes : (min : ℕ) (max : Option ℕ) → is_u32 min ≡ true → max_fits max ≡ true → AreBytes (limits_bytes_by min max)
limits_by_are_bytes min None e f = front 0x00 (u32_bytes min) refl (u32_are_bytes min e)
limits_by_are_bytes min (Some max) e f = front 0x01 (u32_bytes min ++ u32_bytes max) refl (join (u32_bytes min) (u32_bytes max) (u32_are_bytes min e) (u32_are_bytes max f))

pub limits_are_bytes : (l : Limits) → limits_fit l ≡ true → AreBytes (limits_bytes l)
limits_are_bytes l e = limits_by_are_bytes l.min l.max (first _ _ e) (second _ _ e)

pub table_type_are_bytes : (l : Limits) → limits_fit l ≡ true → AreBytes (table_type_bytes l)
table_type_are_bytes l e = front 0x70 (limits_bytes l) refl (limits_are_bytes l e)

mutability_is_byte : (b : Bool) → is_byte (mutability_byte b) ≡ true
mutability_is_byte false = refl
mutability_is_byte true = refl

global_type_are_bytes : (g : GlobalType) → AreBytes (global_type_bytes g)
global_type_are_bytes g = front (type_code g.type) (mutability_byte g.is_mutable ∷ []) (type_is_byte g.type) (one (mutability_byte g.is_mutable) (mutability_is_byte g.is_mutable))

-- ---- Items

number_behind : (tag n : ℕ) → is_byte tag ≡ true → is_u32 n ≡ true → AreBytes (tag ∷ u32_bytes n)
number_behind tag n t e = front tag (u32_bytes n) t (u32_are_bytes n e)

import_desc_are_bytes : (d : ImportDesc) → import_desc_fits d ≡ true → AreBytes (import_desc_bytes d)
import_desc_are_bytes (ImportFunc t) e = number_behind 0x00 t refl e
import_desc_are_bytes (ImportTable l) e = front 0x01 (table_type_bytes l) refl (table_type_are_bytes l e)
import_desc_are_bytes (ImportMemory l) e = front 0x02 (limits_bytes l) refl (limits_are_bytes l e)
import_desc_are_bytes (ImportGlobal g) e = front 0x03 (global_type_bytes g) refl (global_type_are_bytes g)

pub import_are_bytes : (i : Import) → (import_fits i && import_is_named i) ≡ true → AreBytes (import_bytes i)
import_are_bytes i e =
    let named = second (import_fits i) (import_is_named i) e in
    let a = name_bytes i.from_module in
    let b = name_bytes i.name in
    join (a ++ b) (import_desc_bytes i.desc) (join a b (name_are_bytes i.from_module (first _ _ named)) (name_are_bytes i.name (second _ _ named)))
    (import_desc_are_bytes i.desc (first (import_fits i) (import_is_named i) e))

export_desc_are_bytes : (d : ExportDesc) → export_desc_fits d ≡ true → AreBytes (export_desc_bytes d)
export_desc_are_bytes (ExportFunc x) e = number_behind 0x00 x refl e
export_desc_are_bytes (ExportTable x) e = number_behind 0x01 x refl e
export_desc_are_bytes (ExportMemory x) e = number_behind 0x02 x refl e
export_desc_are_bytes (ExportGlobal x) e = number_behind 0x03 x refl e

pub export_are_bytes : (x : Export) → (export_fits x && export_is_named x) ≡ true → AreBytes (export_bytes x)
export_are_bytes x e =
    join (name_bytes x.name) (export_desc_bytes x.desc) (name_are_bytes x.name (second (export_fits x) (export_is_named x) e))
    (export_desc_are_bytes x.desc (first (export_fits x) (export_is_named x) e))

pub global_are_bytes : (g : Global) → global_fits g ≡ true → AreBytes (global_bytes g)
global_are_bytes g e = join (global_type_bytes g.type) (expression_bytes g.init) (global_type_are_bytes g.type) (expression_are_bytes g.init e)

-- a number, an expression and more
segment_are_bytes : (n : ℕ) (is : List ℕ) (bs : List ℕ) → is_u32 n ≡ true → AreBytes is → AreBytes bs → AreBytes ((u32_bytes n ++ is) ++ bs)
segment_are_bytes n is bs e h k = join (u32_bytes n ++ is) bs (join (u32_bytes n) is (u32_are_bytes n e) h) k

pub element_are_bytes : (x : Element) → element_fits x ≡ true → AreBytes (element_bytes x)
element_are_bytes x e =
    let rest = second _ _ e in
    segment_are_bytes x.table (expression_bytes x.offset) (vector_bytes u32_bytes x.funcs) (first _ _ e)
    (expression_are_bytes x.offset (first _ _ rest)) (numbers_are_bytes x.funcs (second _ _ rest))

pub data_are_bytes : (x : DataSegment) → data_fits x ≡ true → AreBytes (data_segment_bytes x)
data_are_bytes x e =
    let rest = second _ _ e in
    segment_are_bytes x.memory (expression_bytes x.offset) (vector_bytes byte_bytes x.bytes) (first _ _ e)
    (expression_are_bytes x.offset (first _ _ rest)) (given_bytes x.bytes (second _ _ rest))

-- ---- Bodies

run_are_bytes : (r : ℕ × ValType) → run_fits r ≡ true → AreBytes (local_run_bytes r)
run_are_bytes r e = join (u32_bytes r.0) (type_code r.1 ∷ []) (u32_are_bytes r.0 e) (one (type_code r.1) (type_is_byte r.1))

locals_are_bytes : (ts : List ValType) → length ts ≤ local_limit → AreBytes (vector_bytes local_run_bytes (maximal_runs ts))
locals_are_bytes ts l =
    vector_are_bytes local_run_bytes run_fits run_are_bytes (λ r. some_append (u32_bytes r.0) (type_code r.1 ∷ []) (u32_some r.0)) (maximal_runs ts) (runs_are_short ts l)

pub code_are_bytes : (f : Func) → func_fits f ≡ true → AreBytes (code_bytes f)
code_are_bytes f e =
    let a = vector_bytes local_run_bytes (maximal_runs f.locals) in
    let b = expression_bytes f.body in
    let rest = second _ _ e in
    sized_are_bytes (a ++ b) (join a b (locals_are_bytes f.locals (leb-true (length f.locals) local_limit (first _ _ rest))) (expression_are_bytes f.body (second _ _ rest)))

-- ---- Sections

pub section_are_bytes : {X : Type 0} (id : ℕ) (f : X → List ℕ) (test : X → Bool) → is_byte id ≡ true → ((x : X) → test x ≡ true → AreBytes (f x)) → ((x : X) → 0 < length (f x))
    → (xs : List X) → list_all test xs ≡ true → AreBytes (list_section_bytes id f xs)
section_are_bytes id f test i each some [] e = none
section_are_bytes id f test i each some (x ∷ xs) e =
    let v = vector_bytes f (x ∷ xs) in
    front id (sized_bytes v) i (sized_are_bytes v (vector_are_bytes f test each some (x ∷ xs) e))

pub start_are_bytes : (o : Option ℕ) → start_fits o ≡ true → AreBytes (start_bytes o)
start_are_bytes None e = none
start_are_bytes (Some f) e = front 8 (sized_bytes (u32_bytes f)) refl (sized_are_bytes (u32_bytes f) (u32_are_bytes f e))
