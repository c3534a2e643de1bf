-- Whatever bytes spell what a section holds, its numbers are in range, and its shortest bytes are no more.
use Rattle.std.proofs.Common.{◌≡◌, ℕ, zero, suc, ◌+◌, ◌≤◌, ◌⊎◌, Bool, true, false, ◌&&◌, List, [], ◌∷◌, ◌++◌, length, replicate, nat_le, Option, Some, None, refl, ap, ◌∙◌, inl, inr, arith, append_assoc, length-append}
use Rattle.std.specs.Prelude.{⊤}
use Rattle.std.specs.List.{list_all}
use Rattle.std.proofs.lemmas.Bool.{le-leb}
use Rattle.wtypes.specs.declared.ValType.{ValType}
use Rattle.wtypes.specs.declared.ValType.TheVariants as valtype
use Rattle.spec_modules.specs.Syntax.{FuncType, Limits, GlobalType, Name, ImportDesc, ImportFunc, ImportTable, ImportMemory, ImportGlobal, ExportDesc, ExportFunc, ExportTable, ExportMemory, ExportGlobal, Import, Func, Global, Export, Element, DataSegment}
use Rattle.spec_modules.specs.Profile.{local_limit}
use Rattle.spec_modules.specs.Limits.{is_u32, is_byte, max_fits, limits_fit, import_desc_fits, import_fits, expression_fits, global_fits, export_desc_fits, export_fits, start_fits, element_fits, data_fits, both}
use Rattle.spec_modules.specs.Language.{byte}
use Rattle.spec_modules.specs.Opcodes.{type_code}
use Rattle.spec_modules.specs.Grammar.{vector, name, value_type, func_type, limits_by, limits, table_type, mutability, global_type, import_desc, import, export_desc, export, global, element, data_segment, local_run, all_locals, locals, code, start_section}
use Rattle.spec_modules.specs.Shortest.{u32_bytes, run_bytes, vector_bytes, byte_bytes, name_bytes, value_type_bytes, func_type_bytes, limits_bytes_by, limits_bytes, table_type_bytes, mutability_byte, global_type_bytes, import_desc_bytes, import_bytes, export_desc_bytes, export_bytes, global_bytes, element_bytes, data_segment_bytes, before_runs, maximal_runs, local_run_bytes, code_bytes, start_bytes, expression_bytes}
use Rattle.laws_modules.specs.ItemLaws.{GlobalIn, ElementIn, DataIn}
use Rattle.laws_modules.specs.ModuleLaws.{FuncIn}
use Rattle.laws_modules.specs.Parts.{Good, good_as, good_means, good_byte, good_then, good_front, good_end, IsU32, good_u32, good_any_byte, u32_rises, u32_sum, good_vector, all_of_each, good_sized, good_section}
use Rattle.laws_modules.specs.Expressions.{good_expression}

-- ---- Types and names

good_bytes : (bs : List ℕ) → Good (vector byte bs) (list_all is_byte bs ≡ true) (vector_bytes byte_bytes bs)
good_bytes bs = good_means (all_of_each is_byte bs) (good_vector good_any_byte bs)

good_name : (n : Name) → Good (name n) ⊤ (name_bytes n)
good_name n = good_as (λ bs s. s.1) (λ _. tt) (omega arith) (good_bytes n)

good_value_type : (t : ValType) → Good (value_type t) ⊤ (value_type_bytes t)
good_value_type t = good_byte (type_code t)

pub good_func_type : (t : FuncType) → Good (func_type t) ⊤ (func_type_bytes t)
good_func_type t = good_front 0x60 (good_means (λ _. tt) (good_then (good_vector good_value_type t.params) (good_vector good_value_type t.results)))

good_limits_by : (min : ℕ) (max : Option ℕ) → Good (limits_by min max) ((is_u32 min && max_fits max) ≡ true) (limits_bytes_by min max)
good_limits_by min None = good_front 0x00 (good_means (λ p. both (is_u32 min) true p refl) (good_u32 min))
good_limits_by min (Some max) = good_front 0x01 (good_means (λ p. both (is_u32 min) (is_u32 max) p.0 p.1) (good_then (good_u32 min) (good_u32 max)))

pub good_limits : (l : Limits) → Good (limits l) (limits_fit l ≡ true) (limits_bytes l)
good_limits l = good_limits_by l.min l.max

pub good_table_type : (l : Limits) → Good (table_type l) (limits_fit l ≡ true) (table_type_bytes l)
good_table_type l = good_front 0x70 (good_limits l)

good_mutability : (b : Bool) → Good (mutability b) ⊤ (mutability_byte b ∷ [])
good_mutability false = good_byte 0x00
good_mutability true = good_byte 0x01

good_global_type : (g : GlobalType) → Good (global_type g) ⊤ (global_type_bytes g)
good_global_type g = good_front (type_code g.type) (good_mutability g.is_mutable)

-- ---- Imports, exports, globals, segments

good_import_desc : (d : ImportDesc) → Good (import_desc d) (import_desc_fits d ≡ true) (import_desc_bytes d)
good_import_desc (ImportFunc t) = good_front 0x00 (good_u32 t)
good_import_desc (ImportTable l) = good_front 0x01 (good_table_type l)
good_import_desc (ImportMemory l) = good_front 0x02 (good_limits l)
good_import_desc (ImportGlobal g) = good_front 0x03 (good_means (λ _. refl) (good_global_type g))

to_left : (a b c : List ℕ) → length (a ++ b ++ c) ≤ length (a ++ (b ++ c))
to_left a b c = omega (arith, ap length (append_assoc a b c))

pub good_import : (i : Import) → Good (import i) (import_fits i ≡ true) (import_bytes i)
good_import i =
    good_as (λ bs s. s) (λ p. p.1.1) (to_left (name_bytes i.from_module) (name_bytes i.name) (import_desc_bytes i.desc))
    (good_then (good_name i.from_module) (good_then (good_name i.name) (good_import_desc i.desc)))

good_export_desc : (d : ExportDesc) → Good (export_desc d) (export_desc_fits d ≡ true) (export_desc_bytes d)
good_export_desc (ExportFunc x) = good_front 0x00 (good_u32 x)
good_export_desc (ExportTable x) = good_front 0x01 (good_u32 x)
good_export_desc (ExportMemory x) = good_front 0x02 (good_u32 x)
good_export_desc (ExportGlobal x) = good_front 0x03 (good_u32 x)

pub good_export : (x : Export) → Good (export x) (export_fits x ≡ true) (export_bytes x)
good_export x = good_means (λ p. p.1) (good_then (good_name x.name) (good_export_desc x.desc))

pub good_global : (g : Global) → Good (global g) (GlobalIn g → global_fits g ≡ true) (global_bytes g)
good_global g = good_means (λ p. p.1) (good_then (good_global_type g.type) (good_expression g.init))

pub good_start : (o : Option ℕ) → Good (start_section o) (start_fits o ≡ true) (start_bytes o)
good_start None = record { keeps = λ bs w s. (refl, omega arith) }
good_start (Some f) = good_section 8 (good_u32 f)

pub good_element : (x : Element) → Good (element x) (ElementIn x → element_fits x ≡ true) (element_bytes x)
good_element x =
    good_as (λ bs s. s)
    (λ p limits. both (is_u32 x.table) (expression_fits x.offset && list_all is_u32 x.funcs) p.0 (both (expression_fits x.offset) (list_all is_u32 x.funcs) (p.1.0 limits) (all_of_each is_u32 x.funcs p.1.1)))
    (to_left (u32_bytes x.table) (expression_bytes x.offset) (vector_bytes u32_bytes x.funcs))
    (good_then (good_u32 x.table) (good_then (good_expression x.offset) (good_vector good_u32 x.funcs)))

pub good_data : (x : DataSegment) → Good (data_segment x) (DataIn x → data_fits x ≡ true) (data_segment_bytes x)
good_data x =
    good_as (λ bs s. s)
    (λ p limits. both (is_u32 x.memory) (expression_fits x.offset && list_all is_byte x.bytes) p.0 (both (expression_fits x.offset) (list_all is_byte x.bytes) (p.1.0 limits) p.1.1))
    (to_left (u32_bytes x.memory) (expression_bytes x.offset) (vector_bytes byte_bytes x.bytes))
    (good_then (good_u32 x.memory) (good_then (good_expression x.offset) (good_bytes x.bytes)))

-- ---- Locals

-- so many more of one type, in front of runs: a run of their own, or as many more in the first run
abbrev Joined : ℕ → ValType → List (ℕ × ValType) → List (ℕ × ValType) → Type 0
Joined n t rs out =
    (out ≡ (n, t) ∷ rs) ⊎ ((k : ℕ) × (tail : List (ℕ × ValType)) × (rs ≡ (k, t) ∷ tail) × (out ≡ (k + n, t) ∷ tail))

one_more_of_own : (n : ℕ) (t : ValType) (rs : List (ℕ × ValType)) → before_runs t ((n, t) ∷ rs) ≡ (n + 1, t) ∷ rs
one_more_of_own n valtype.I32 rs = refl
one_more_of_own n valtype.I64 rs = refl

-- one local in front
one_joined : (t : ValType) (rs : List (ℕ × ValType)) → Joined 1 t rs (before_runs t rs)
one_joined t [] = inl refl
one_joined valtype.I32 ((n, valtype.I32) ∷ rs) = inr (n, rs, refl, refl)
one_joined valtype.I32 ((n, valtype.I64) ∷ rs) = inl refl
one_joined valtype.I64 ((n, valtype.I32) ∷ rs) = inl refl
one_joined valtype.I64 ((n, valtype.I64) ∷ rs) = inr (n, rs, refl, refl)

more_joined : (n : ℕ) (t : ValType) (rs out : List (ℕ × ValType)) → Joined n t rs out → Joined (suc n) t rs (before_runs t out)
more_joined n t rs out (inl e) =
    let next : n + 1 ≡ suc n = omega arith in
    inl (ap (before_runs t) e ∙ one_more_of_own n t rs ∙ ap (λ k. (k, t) ∷ rs) next)
more_joined n t rs out (inr s) =
    let next : (s.0 + n) + 1 ≡ s.0 + suc n = omega arith in
    inr (s.0, s.1, s.2, ap (before_runs t) s.3 ∙ one_more_of_own (s.0 + n) t s.1 ∙ ap (λ k. (k, t) ∷ s.1) next)

all_joined : (n : ℕ) (t : ValType) (ts : List ValType) → Joined (suc n) t (maximal_runs ts) (maximal_runs (replicate (suc n) t ++ ts))
all_joined zero t ts = one_joined t (maximal_runs ts)
all_joined (suc n) t ts = more_joined (suc n) t (maximal_runs ts) (maximal_runs (replicate (suc n) t ++ ts)) (all_joined n t ts)

-- no more runs and no more bytes
record NoMore (a b : List (ℕ × ValType)) : Type 0 where
  pub runs : length a ≤ length b
  pub bytes : length (run_bytes local_run_bytes a) ≤ length (run_bytes local_run_bytes b)

run_length : (n : ℕ) (t : ValType) (rs : List (ℕ × ValType)) → length (run_bytes local_run_bytes ((n, t) ∷ rs)) ≡ length (u32_bytes n) + 1 + length (run_bytes local_run_bytes rs)
run_length n t rs = omega (arith, length-append (u32_bytes n ++ type_code t ∷ []) (run_bytes local_run_bytes rs), length-append (u32_bytes n) (type_code t ∷ []))

joined_no_more : (n : ℕ) (t : ValType) (rs out : List (ℕ × ValType)) → Joined n t rs out → NoMore out ((n, t) ∷ rs)
joined_no_more n t rs out (inl e) = record {
  runs = omega (arith, ap length e);
  bytes = omega (arith, ap (λ l. length (run_bytes local_run_bytes l)) e);
}
joined_no_more n t rs out (inr s) = record {
  runs = omega (arith, ap length s.2, ap length s.3);
  bytes = omega (
    arith,
    ap (λ l. length (run_bytes local_run_bytes l)) s.2,
    ap (λ l. length (run_bytes local_run_bytes l)) s.3,
    run_length n t rs,
    run_length s.0 t s.1,
    run_length (s.0 + n) t s.1,
    u32_sum s.0 n,
  );
}

-- maximal runs are no more than any runs
runs_no_more : (runs : List (ℕ × ValType)) → NoMore (maximal_runs (all_locals runs)) runs
runs_no_more [] = record { runs = omega arith; bytes = omega arith }
runs_no_more ((zero, t) ∷ rs) =
    let rest = runs_no_more rs in
    record { runs = omega (arith, rest.runs); bytes = omega (arith, rest.bytes, run_length 0 t rs) }
runs_no_more ((suc n, t) ∷ rs) =
    let rest = runs_no_more rs in
    let more = maximal_runs (all_locals rs) in
    let whole = joined_no_more (suc n) t more (maximal_runs (replicate (suc n) t ++ all_locals rs)) (all_joined n t (all_locals rs)) in
    record {
      runs = omega (arith, rest.runs, whole.runs);
      bytes = omega (arith, rest.bytes, whole.bytes, run_length (suc n) t more, run_length (suc n) t rs);
    }

good_local_run : (r : ℕ × ValType) → Good (local_run r) (IsU32 r.0) (local_run_bytes r)
good_local_run r = good_end (type_code r.1) (good_u32 r.0)

good_locals : (ts : List ValType) → Good (locals ts) ⊤ (vector_bytes local_run_bytes (maximal_runs ts))
good_locals ts = record {
  keeps = λ bs w s.
      let k = (good_vector good_local_run s.0).keeps bs w s.2 in
      let best = maximal_runs (all_locals s.0) in
      let few = runs_no_more s.0 in
      let same : length (vector_bytes local_run_bytes best) ≡ length (vector_bytes local_run_bytes (maximal_runs ts)) = ap (λ l. length (vector_bytes local_run_bytes (maximal_runs l))) s.1 in (
        tt,
        omega (
          arith,
          k.1,
          same,
          few.bytes,
          u32_rises (length best) (length s.0) few.runs,
          length-append (u32_bytes (length best)) (run_bytes local_run_bytes best),
          length-append (u32_bytes (length s.0)) (run_bytes local_run_bytes s.0),
        ),
      );
}

-- ---- Bodies

pub good_code : (f : Func) → Good (code f) (FuncIn f → (nat_le (length f.locals) local_limit && expression_fits f.body) ≡ true) (code_bytes f)
good_code f =
    good_means (λ p limits. both (nat_le (length f.locals) local_limit) (expression_fits f.body) (le-leb (length f.locals) local_limit limits.0) (p.1 limits.1))
    (good_sized (good_then (good_locals f.locals) (good_expression f.body)))
