-- The shortest spelling of a module is a spelling of it, where its numbers are in range, its names are UTF-8 and the
-- bytes are fewer than 2^32.
use Rattle.std.proofs.Common.{◌≡◌, ℕ, suc, ◌+◌, ◌<◌, ◌≤◌, Bool, true, false, ◌&&◌, List, [], ◌∷◌, ◌++◌, length, replicate, Option, Some, None, refl, ap, ◌∙◌, arith, append_assoc, length-append}
use Rattle.std.specs.Prelude.{⊤}
use Rattle.std.specs.List.{list_all}
use Rattle.std.specs.Str.{is_utf8}
use Rattle.std.proofs.lemmas.Str.{IsUtf8-from_is_utf8}
use Rattle.std.proofs.lemmas.Bool.{lt-ltb, leb-true}
use Rattle.wtypes.specs.declared.ValType.{ValType}
use Rattle.wtypes.specs.declared.ValType.TheVariants as valtype
use Rattle.spec_modules.specs.Syntax.{FuncType, Limits, GlobalType, Name, ImportDesc, ImportFunc, ImportTable, ImportMemory, ImportGlobal, ExportDesc, ExportFunc, ExportTable, ExportMemory, ExportGlobal, Import, Func, Global, Export, Element, DataSegment}
use Rattle.spec_modules.specs.Profile.{local_limit}
use Rattle.spec_modules.specs.Limits.{is_u32, max_fits, limits_fit, import_desc_fits, import_fits, func_fits, global_fits, export_desc_fits, export_fits, element_fits, data_fits, first, second, both}
use Rattle.spec_modules.specs.Language.{Language, byte, ◌⨾◌}
use Rattle.spec_modules.specs.Leb.{u32}
use Rattle.spec_modules.specs.Opcodes.{type_code}
use Rattle.spec_modules.specs.Grammar.{expression, vector, name, value_type, func_type, limits_by, limits, table_type, mutability, global_type, import_desc, import, export_desc, export, global, element, data_segment, sized, local_run, all_locals, locals, code}
use Rattle.spec_modules.specs.Shortest.{u32_bytes, run_bytes, vector_bytes, expression_bytes, byte_bytes, name_bytes, value_type_bytes, func_type_bytes, limits_bytes_by, limits_bytes, table_type_bytes, mutability_byte, global_type_bytes, import_desc_bytes, import_bytes, export_desc_bytes, export_bytes, global_bytes, element_bytes, data_segment_bytes, before_runs, maximal_runs, local_run_bytes, sized_bytes, code_bytes}
use Rattle.laws_modules.specs.ShortestBytes.{u32_some}
use Rattle.laws_modules.specs.ShortestSpellings.{IsSmall, small_left, small_right, count_spelled, u32_spelled, vector_spelled, expression_spelled}

abbrev any : {X : Type 0} → X → Bool
any x = true

all_any : {X : Type 0} (xs : List X) → list_all any xs ≡ true
all_any [] = refl
all_any (x ∷ xs) = all_any xs

pub some_append : (a b : List ℕ) → 0 < length a → 0 < length (a ++ b)
some_append a b h = omega (arith, length-append a b)

-- ---- Types and names

bytes_spelled : (bs : List ℕ) → IsSmall (vector_bytes byte_bytes bs) → vector byte bs (vector_bytes byte_bytes bs)
bytes_spelled bs s = vector_spelled byte byte_bytes any (λ b _ _. refl) (λ b. omega arith) bs (all_any bs) s

name_spelled : (n : Name) → is_utf8 n ≡ true → IsSmall (name_bytes n) → name n (name_bytes n)
name_spelled n u s = (IsUtf8-from_is_utf8 n u, bytes_spelled n s)

value_types_spelled : (ts : List ValType) → IsSmall (vector_bytes value_type_bytes ts) → vector value_type ts (vector_bytes value_type_bytes ts)
value_types_spelled ts s = vector_spelled value_type value_type_bytes any (λ t _ _. refl) (λ t. omega arith) ts (all_any ts) s

pub func_type_spelled : (t : FuncType) → IsSmall (func_type_bytes t) → func_type t (func_type_bytes t)
func_type_spelled t s =
    let p = vector_bytes value_type_bytes t.params in
    let r = vector_bytes value_type_bytes t.results in
    let within : IsSmall (p ++ r) = omega arith in
    (0x60 ∷ [], p ++ r, refl, refl, (p, r, refl, value_types_spelled t.params (small_left p r within), value_types_spelled t.results (small_right p r within)))

limits_by_spelled : (min : ℕ) (max : Option ℕ) → is_u32 min ≡ true → max_fits max ≡ true → limits_by min max (limits_bytes_by min max)
limits_by_spelled min None e f = (0x00 ∷ [], u32_bytes min, refl, refl, u32_spelled min e)
limits_by_spelled min (Some max) e f = (0x01 ∷ [], u32_bytes min ++ u32_bytes max, refl, refl, (u32_bytes min, u32_bytes max, refl, u32_spelled min e, u32_spelled max f))

pub limits_spelled : (l : Limits) → limits_fit l ≡ true → limits l (limits_bytes l)
limits_spelled l e = limits_by_spelled l.min l.max (first _ _ e) (second _ _ e)

pub limits_some : (min : ℕ) (max : Option ℕ) → 0 < length (limits_bytes_by min max)
limits_some min None = omega arith
limits_some min (Some max) = omega arith

pub table_type_spelled : (l : Limits) → limits_fit l ≡ true → table_type l (table_type_bytes l)
table_type_spelled l e = (0x70 ∷ [], limits_bytes l, refl, refl, limits_spelled l e)

mutability_spelled : (b : Bool) → mutability b (mutability_byte b ∷ [])
mutability_spelled false = refl
mutability_spelled true = refl

global_type_spelled : (g : GlobalType) → global_type g (global_type_bytes g)
global_type_spelled g = (type_code g.type ∷ [], mutability_byte g.is_mutable ∷ [], refl, refl, mutability_spelled g.is_mutable)

-- ---- Items

import_desc_spelled : (d : ImportDesc) → import_desc_fits d ≡ true → import_desc d (import_desc_bytes d)
import_desc_spelled (ImportFunc t) e = (0x00 ∷ [], u32_bytes t, refl, refl, u32_spelled t e)
import_desc_spelled (ImportTable l) e = (0x01 ∷ [], table_type_bytes l, refl, refl, table_type_spelled l e)
import_desc_spelled (ImportMemory l) e = (0x02 ∷ [], limits_bytes l, refl, refl, limits_spelled l e)
import_desc_spelled (ImportGlobal g) e = (0x03 ∷ [], global_type_bytes g, refl, refl, global_type_spelled g)

-- its names are UTF-8
abbrev pub import_is_named : Import → Bool
import_is_named i = is_utf8 i.from_module && is_utf8 i.name

abbrev pub export_is_named : Export → Bool
export_is_named e = is_utf8 e.name

pub import_spelled : (i : Import) → (import_fits i && import_is_named i) ≡ true → IsSmall (import_bytes i) → import i (import_bytes i)
import_spelled i e s =
    let named = second (import_fits i) (import_is_named i) e in
    let a = name_bytes i.from_module in
    let b = name_bytes i.name in
    let c = import_desc_bytes i.desc in
    let ab = small_left (a ++ b) c s in (
      a,
      b ++ c,
      append_assoc a b c,
      name_spelled i.from_module (first _ _ named) (small_left a b ab),
      (b, c, refl, name_spelled i.name (second _ _ named) (small_right a b ab), import_desc_spelled i.desc (first (import_fits i) (import_is_named i) e)),
    )

name_some : (n : Name) → 0 < length (name_bytes n)
name_some n = some_append (u32_bytes (length n)) (run_bytes byte_bytes n) (u32_some (length n))

pub import_some : (i : Import) → 0 < length (import_bytes i)
import_some i = some_append (name_bytes i.from_module ++ name_bytes i.name) (import_desc_bytes i.desc) (some_append (name_bytes i.from_module) (name_bytes i.name) (name_some i.from_module))

export_desc_spelled : (d : ExportDesc) → export_desc_fits d ≡ true → export_desc d (export_desc_bytes d)
export_desc_spelled (ExportFunc x) e = (0x00 ∷ [], u32_bytes x, refl, refl, u32_spelled x e)
export_desc_spelled (ExportTable x) e = (0x01 ∷ [], u32_bytes x, refl, refl, u32_spelled x e)
export_desc_spelled (ExportMemory x) e = (0x02 ∷ [], u32_bytes x, refl, refl, u32_spelled x e)
export_desc_spelled (ExportGlobal x) e = (0x03 ∷ [], u32_bytes x, refl, refl, u32_spelled x e)

pub export_spelled : (x : Export) → (export_fits x && export_is_named x) ≡ true → IsSmall (export_bytes x) → export x (export_bytes x)
export_spelled x e s = (
  name_bytes x.name,
  export_desc_bytes x.desc,
  refl,
  name_spelled x.name (second (export_fits x) (export_is_named x) e) (small_left (name_bytes x.name) (export_desc_bytes x.desc) s),
  export_desc_spelled x.desc (first (export_fits x) (export_is_named x) e),
)

pub export_some : (x : Export) → 0 < length (export_bytes x)
export_some x = some_append (name_bytes x.name) (export_desc_bytes x.desc) (name_some x.name)

pub global_spelled : (g : Global) → global_fits g ≡ true → IsSmall (global_bytes g) → global g (global_bytes g)
global_spelled g e s =
    (global_type_bytes g.type, expression_bytes g.init, refl, global_type_spelled g.type, expression_spelled g.init e (small_right (global_type_bytes g.type) (expression_bytes g.init) s))

pub element_spelled : (x : Element) → element_fits x ≡ true → IsSmall (element_bytes x) → element x (element_bytes x)
element_spelled x e s =
    let a = u32_bytes x.table in
    let b = expression_bytes x.offset in
    let c = vector_bytes u32_bytes x.funcs in
    let rest = second _ _ e in (
      a,
      b ++ c,
      append_assoc a b c,
      u32_spelled x.table (first _ _ e),
      (
        b,
        c,
        refl,
        expression_spelled x.offset (first _ _ rest) (small_right a b (small_left (a ++ b) c s)),
        vector_spelled u32 u32_bytes is_u32 (λ n t _. u32_spelled n t) u32_some x.funcs (second _ _ rest) (small_right (a ++ b) c s),
      ),
    )

pub element_some : (x : Element) → 0 < length (element_bytes x)
element_some x = some_append (u32_bytes x.table ++ expression_bytes x.offset) (vector_bytes u32_bytes x.funcs) (some_append (u32_bytes x.table) (expression_bytes x.offset) (u32_some x.table))

pub data_spelled : (x : DataSegment) → data_fits x ≡ true → IsSmall (data_segment_bytes x) → data_segment x (data_segment_bytes x)
data_spelled x e s =
    let a = u32_bytes x.memory in
    let b = expression_bytes x.offset in
    let c = vector_bytes byte_bytes x.bytes in
    let rest = second _ _ e in (
      a,
      b ++ c,
      append_assoc a b c,
      u32_spelled x.memory (first _ _ e),
      (b, c, refl, expression_spelled x.offset (first _ _ rest) (small_right a b (small_left (a ++ b) c s)), bytes_spelled x.bytes (small_right (a ++ b) c s)),
    )

pub data_some : (x : DataSegment) → 0 < length (data_segment_bytes x)
data_some x = some_append (u32_bytes x.memory ++ expression_bytes x.offset) (vector_bytes byte_bytes x.bytes) (some_append (u32_bytes x.memory) (expression_bytes x.offset) (u32_some x.memory))

-- ---- Bodies

abbrev EachLe : ℕ → List (ℕ × ValType) → Type 0
EachLe k [] = ⊤
EachLe k (r ∷ rs) = (r.0 ≤ k) × EachLe k rs

each_le : (j k : ℕ) (rs : List (ℕ × ValType)) → j < k → EachLe j rs → EachLe k rs
each_le j k [] l h = tt
each_le j k (r ∷ rs) l h = let m = h.0 in (omega (arith, m), each_le j k rs l h.1)

before_le : (j k : ℕ) (t : ValType) (rs : List (ℕ × ValType)) → j < k → EachLe j rs → EachLe k (before_runs t rs)
before_le j k t [] l h = (omega arith, tt)
before_le j k valtype.I32 ((n, valtype.I32) ∷ rs) l h = let m = h.0 in (omega (arith, m), each_le j k rs l h.1)
before_le j k valtype.I32 ((n, valtype.I64) ∷ rs) l h = let m = h.0 in (omega arith, (omega (arith, m), each_le j k rs l h.1))
before_le j k valtype.I64 ((n, valtype.I32) ∷ rs) l h = let m = h.0 in (omega arith, (omega (arith, m), each_le j k rs l h.1))
before_le j k valtype.I64 ((n, valtype.I64) ∷ rs) l h = let m = h.0 in (omega (arith, m), each_le j k rs l h.1)

runs_le : (k : ℕ) (ts : List ValType) → length ts ≤ k → EachLe k (maximal_runs ts)
runs_le k [] l = tt
runs_le k (t ∷ ts) l = before_le (length ts) k t (maximal_runs ts) (omega arith) (runs_le (length ts) ts (omega arith))

abbrev pub run_fits : ℕ × ValType → Bool
run_fits r = is_u32 r.0

runs_fit : (k : ℕ) (rs : List (ℕ × ValType)) → k < 4294967296 → EachLe k rs → list_all run_fits rs ≡ true
runs_fit k [] l h = refl
runs_fit k (r ∷ rs) l h = let m = h.0 in both (is_u32 r.0) (list_all run_fits rs) (lt-ltb r.0 4294967296 (omega (arith, m))) (runs_fit k rs l h.1)

pub runs_are_short : (ts : List ValType) → length ts ≤ local_limit → list_all run_fits (maximal_runs ts) ≡ true
runs_are_short ts l = runs_fit 1024 (maximal_runs ts) (omega arith) (runs_le 1024 ts l)

one_more : (n : ℕ) (t : ValType) (ts : List ValType) → replicate (n + 1) t ++ ts ≡ t ∷ (replicate n t ++ ts)
one_more n t ts = ap (λ k. replicate k t ++ ts) (let e : n + 1 ≡ suc n = omega arith in e)

all_before : (t : ValType) (rs : List (ℕ × ValType)) → all_locals (before_runs t rs) ≡ t ∷ all_locals rs
all_before t [] = refl
all_before valtype.I32 ((n, valtype.I32) ∷ rs) = one_more n valtype.I32 (all_locals rs)
all_before valtype.I32 ((n, valtype.I64) ∷ rs) = refl
all_before valtype.I64 ((n, valtype.I32) ∷ rs) = refl
all_before valtype.I64 ((n, valtype.I64) ∷ rs) = one_more n valtype.I64 (all_locals rs)

all_of_runs : (ts : List ValType) → all_locals (maximal_runs ts) ≡ ts
all_of_runs [] = refl
all_of_runs (t ∷ ts) = all_before t (maximal_runs ts) ∙ ap (λ l. t ∷ l) (all_of_runs ts)

run_spelled : (r : ℕ × ValType) → run_fits r ≡ true → local_run r (local_run_bytes r)
run_spelled r e = (u32_bytes r.0, type_code r.1 ∷ [], refl, u32_spelled r.0 e, refl)

locals_spelled : (ts : List ValType) → length ts ≤ local_limit → IsSmall (vector_bytes local_run_bytes (maximal_runs ts)) → locals ts (vector_bytes local_run_bytes (maximal_runs ts))
locals_spelled ts l s = (
  maximal_runs ts,
  all_of_runs ts,
  vector_spelled local_run local_run_bytes run_fits (λ r e _. run_spelled r e) (λ r. some_append (u32_bytes r.0) (type_code r.1 ∷ []) (u32_some r.0)) (maximal_runs ts) (runs_are_short ts l) s,
)

pub sized_spelled : (P : Language) (bytes : List ℕ) → IsSmall (sized_bytes bytes) → P bytes → sized P (sized_bytes bytes)
sized_spelled P bytes s p = (u32_bytes (length bytes), bytes, refl, count_spelled (length bytes) (small_right (u32_bytes (length bytes)) bytes s), p)

pub code_spelled : (f : Func) → func_fits f ≡ true → IsSmall (code_bytes f) → code f (code_bytes f)
code_spelled f e s =
    let a = vector_bytes local_run_bytes (maximal_runs f.locals) in
    let b = expression_bytes f.body in
    let rest = second _ _ e in
    let within = small_right (u32_bytes (length (a ++ b))) (a ++ b) s in
    sized_spelled (locals f.locals ⨾ expression f.body) (a ++ b) s
    (a, b, refl, locals_spelled f.locals (leb-true (length f.locals) local_limit (first _ _ rest)) (small_left a b within), expression_spelled f.body (second _ _ rest) (small_right a b within))

pub code_some : (f : Func) → 0 < length (code_bytes f)
code_some f =
    let b = vector_bytes local_run_bytes (maximal_runs f.locals) ++ expression_bytes f.body in
    some_append (u32_bytes (length b)) b (u32_some (length b))
