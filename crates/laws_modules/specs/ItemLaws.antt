-- What the sections hold: what is read is spelled so and keeps the limits, and what is spelled so and keeps them is read.
use Rattle.std.proofs.Common.{◌≡◌, ℕ, zero, suc, ◌+◌, ◌-◌, ◌≤◌, Bool, true, false, leb, List, [], ◌∷◌, ◌++◌, length, Option, Some, None, refl, sym, ap, subst, ◌∙◌, arith, length-append}
use Rattle.std.specs.Prelude.{option_map, replicate}
use Rattle.std.specs.Str.{is_utf8}
use Rattle.std.proofs.lemmas.Str.{IsUtf8-from_is_utf8, is_utf8-from_IsUtf8}
use Rattle.std.proofs.lemmas.Bool.{leb-true, le-leb}
use Rattle.std.proofs.lemmas.Option.{some_pair_parts}
use Rattle.wtypes.specs.declared.ValType.{ValType}
use Rattle.wtypes.specs.declared.ValType.TheVariants as valtype
use Rattle.spec_modules.specs.Syntax.{Instrs, FuncType, GlobalType, ImportDesc, ImportFunc, ImportTable, ImportMemory, ImportGlobal, ExportDesc, ExportFunc, ExportTable, ExportMemory, ExportGlobal, Import, Global, Export, Element, DataSegment}
use Rattle.spec_modules.specs.Profile.{local_limit}
use Rattle.spec_modules.specs.Opcodes.{type_code}
use Rattle.spec_modules.specs.Language.{Language, run, ◌⨾◌}
use Rattle.spec_modules.specs.Leb.{unsigned}
use Rattle.spec_modules.specs.Grammar.{vector, name, value_type, func_type, limits, limits_by, table_type, mutability, global_type, import_desc, import, export_desc, export, expression, global, element, data_segment, sized, local_run, all_locals, locals}
use Rattle.spec_modules.specs.Reading.{Read, ◌>>=◌}
use Rattle.spec_modules.specs.NumberLaws.{kept, unsigned_takes, unsigned_again}
use Rattle.laws_modules.specs.ReadingExpressions.{vector_at}
use Rattle.laws_modules.specs.Readers.{Reads, Any, each_any, vector_reads, unsigned_reads, bind_then, map_then, fst_is, snd_is, join_found, seam, front_byte}
use Rattle.laws_modules.specs.ExpressionLaws.{FitsIn, expression_reads}
use Rattle.laws_modules.specs.ReadingModules.{u32_at, given_at, tagged_at, none_at, value_type_at, name_at, func_type_at, limits_at, table_type_at, mutability_at, global_type_at, import_desc_at, import_at, export_desc_at, export_at, global_at, element_at, data_at, runs_at, locals_at, code_at}
use Rattle.laws_modules.specs.ReaderLaws.{same_reads, after_reads, both_reads, made_reads, tagged_takes, made_case, given_case, none_case, inside_reads, bytes_reads}

pub u32_reads : Reads Any Any (unsigned 32) u32_at
u32_reads = unsigned_reads 32

-- a vector of items without condition
plain_vector : {X : Type 0} {F : X → Language} {r : List ℕ → Read X} → Reads Any Any F r → Reads Any Any (vector F) (vector_at r)
plain_vector h = same_reads (vector_reads h) (λ x p. tt) (λ x p. each_any x) (λ x a s. s) (λ x a s. s)

-- ---- types and names

code_again : (x : ValType) (rest : List ℕ) → value_type_at (type_code x ∷ rest) ≡ Some (x, rest)
unfolding value_type_at
code_again valtype.I32 rest = refl
code_again valtype.I64 rest = refl

pub value_type_reads : Reads Any Any value_type value_type_at
unfolding value_type_at
value_type_reads = record {
  takes = λ bs x rest e. (
    tagged_takes value_type 0x7F (given_at valtype.I32) (tagged_at 0x7E (given_at valtype.I64) none_at) (given_case value_type 0x7F valtype.I32 refl)
        (tagged_takes value_type 0x7E (given_at valtype.I64) none_at (given_case value_type 0x7E valtype.I64 refl) (none_case value_type)) bs x rest e,
    tt,
  );
  again = λ x a rest p s. ap (λ l. value_type_at (l ++ rest)) s ∙ code_again x rest;
}

pub name_reads : Reads Any Any name name_at
unfolding name_at
name_reads = record {
  takes = λ bs x rest e. bind_then _ _ _ e (λ s h e.
      let k = kept (is_utf8 s.0) (Some (s.0, s.1)) (x, rest) e in
      let q = some_pair_parts s.0 x s.1 rest k.1 in
      let t = bytes_reads.takes bs s.0 s.1 h in
      let u = IsUtf8-from_is_utf8 s.0 k.0 in
      ((t.0.0, t.0.1 ∙ ap (λ l. t.0.0 ++ l) q.1, subst (λ z. name z t.0.0) q.0 (u, t.0.2)), tt));
  again = λ x a rest p s. rw (bytes_reads.again x a rest tt s.1, is_utf8-from_IsUtf8 x s.0) refl;
}

pub func_type_reads : Reads Any Any func_type func_type_at
unfolding func_type_at
func_type_reads =
    same_reads (made_reads (λ p. record { params = p.0; results = p.1 }) (λ (t : FuncType). (t.params, t.results)) (λ y. refl) (λ x. refl)
    (after_reads 0x60 (both_reads (plain_vector value_type_reads) (plain_vector value_type_reads))))
    (λ x p. tt) (λ x p. (tt, tt)) (λ x a s. s) (λ x a s. s)

limits_again : (min : ℕ) (max : Option ℕ) (a rest : List ℕ) → limits_by min max a → limits_at (a ++ rest) ≡ Some (record { min = min; max = max }, rest)
unfolding limits_at
limits_again min None a rest s =
    let b = front_byte 0x00 (unsigned 32 min) a rest s in
    ap limits_at b.2 ∙ rw (unsigned_again 32 b.0 min rest b.1) refl
limits_again min (Some max) a rest s =
    let b = front_byte 0x01 (unsigned 32 min ⨾ unsigned 32 max) a rest s in
    ap limits_at b.2 ∙ rw ((both_reads u32_reads u32_reads).again (min, max) b.0 rest (tt, tt) b.1) refl

pub limits_reads : Reads Any Any limits limits_at
unfolding limits_at
limits_reads = record {
  takes = λ bs x rest e. (
    tagged_takes limits 0x00 _ _ (made_case limits 0x00 (λ n. record { min = n; max = None }) u32_reads (λ y a s. s))
        (tagged_takes limits 0x01 _ none_at (made_case limits 0x01 (λ (p : ℕ × ℕ). record { min = p.0; max = Some p.1 }) (both_reads u32_reads u32_reads) (λ y a s. s)) (none_case limits)) bs x rest e,
    tt,
  );
  again = λ x a rest p s. limits_again x.min x.max a rest s;
}

pub table_type_reads : Reads Any Any table_type table_type_at
unfolding table_type_at
table_type_reads = after_reads 0x70 limits_reads

mutability_again : (x : Bool) (a rest : List ℕ) → mutability x a → mutability_at (a ++ rest) ≡ Some (x, rest)
unfolding mutability_at
mutability_again false a rest s = ap (λ l. mutability_at (l ++ rest)) s
mutability_again true a rest s = ap (λ l. mutability_at (l ++ rest)) s

mutability_reads : Reads Any Any mutability mutability_at
unfolding mutability_at
mutability_reads = record {
  takes = λ bs x rest e. (
    tagged_takes mutability 0x00 (given_at false) (tagged_at 0x01 (given_at true) none_at) (given_case mutability 0x00 false refl)
        (tagged_takes mutability 0x01 (given_at true) none_at (given_case mutability 0x01 true refl) (none_case mutability)) bs x rest e,
    tt,
  );
  again = λ x a rest p s. mutability_again x a rest s;
}

pub global_type_reads : Reads Any Any global_type global_type_at
unfolding global_type_at
global_type_reads =
    same_reads (made_reads (λ p. record { type = p.0; is_mutable = p.1 }) (λ (g : GlobalType). (g.type, g.is_mutable)) (λ y. refl) (λ x. refl) (both_reads value_type_reads mutability_reads))
    (λ x p. tt) (λ x p. (tt, tt)) (λ x a s. s) (λ x a s. s)

-- ---- what the sections hold

import_desc_again : (x : ImportDesc) (a rest : List ℕ) → import_desc x a → import_desc_at (a ++ rest) ≡ Some (x, rest)
unfolding import_desc_at
import_desc_again (ImportFunc t) a rest s =
    let b = front_byte 0x00 (unsigned 32 t) a rest s in
    ap import_desc_at b.2 ∙ rw (unsigned_again 32 b.0 t rest b.1) refl
import_desc_again (ImportTable l) a rest s =
    let b = front_byte 0x01 (table_type l) a rest s in
    ap import_desc_at b.2 ∙ rw (table_type_reads.again l b.0 rest tt b.1) refl
import_desc_again (ImportMemory l) a rest s =
    let b = front_byte 0x02 (limits l) a rest s in
    ap import_desc_at b.2 ∙ rw (limits_reads.again l b.0 rest tt b.1) refl
import_desc_again (ImportGlobal g) a rest s =
    let b = front_byte 0x03 (global_type g) a rest s in
    ap import_desc_at b.2 ∙ rw (global_type_reads.again g b.0 rest tt b.1) refl

pub import_desc_reads : Reads Any Any import_desc import_desc_at
unfolding import_desc_at
import_desc_reads = record {
  takes = λ bs x rest e. (
    tagged_takes import_desc 0x00 _ _ (made_case import_desc 0x00 (λ t. ImportFunc t) u32_reads (λ y a s. s))
        (tagged_takes import_desc 0x01 _ _ (made_case import_desc 0x01 (λ l. ImportTable l) table_type_reads (λ y a s. s))
        (tagged_takes import_desc 0x02 _ _ (made_case import_desc 0x02 (λ l. ImportMemory l) limits_reads (λ y a s. s))
        (tagged_takes import_desc 0x03 _ none_at (made_case import_desc 0x03 (λ g. ImportGlobal g) global_type_reads (λ y a s. s)) (none_case import_desc)))) bs x rest e,
    tt,
  );
  again = λ x a rest p s. import_desc_again x a rest s;
}

pub import_reads : Reads Any Any import import_at
unfolding import_at
import_reads =
    same_reads (made_reads (λ p. record { from_module = p.0; name = p.1.0; desc = p.1.1 }) (λ (i : Import). (i.from_module, (i.name, i.desc))) (λ y. refl) (λ x. refl)
    (both_reads name_reads (both_reads name_reads import_desc_reads)))
    (λ x p. tt) (λ x p. (tt, (tt, tt))) (λ x a s. s) (λ x a s. s)

export_desc_again : (x : ExportDesc) (a rest : List ℕ) → export_desc x a → export_desc_at (a ++ rest) ≡ Some (x, rest)
unfolding export_desc_at
export_desc_again (ExportFunc x) a rest s = let b = front_byte 0x00 (unsigned 32 x) a rest s in ap export_desc_at b.2 ∙ rw (unsigned_again 32 b.0 x rest b.1) refl
export_desc_again (ExportTable x) a rest s = let b = front_byte 0x01 (unsigned 32 x) a rest s in ap export_desc_at b.2 ∙ rw (unsigned_again 32 b.0 x rest b.1) refl
export_desc_again (ExportMemory x) a rest s = let b = front_byte 0x02 (unsigned 32 x) a rest s in ap export_desc_at b.2 ∙ rw (unsigned_again 32 b.0 x rest b.1) refl
export_desc_again (ExportGlobal x) a rest s = let b = front_byte 0x03 (unsigned 32 x) a rest s in ap export_desc_at b.2 ∙ rw (unsigned_again 32 b.0 x rest b.1) refl

pub export_desc_reads : Reads Any Any export_desc export_desc_at
unfolding export_desc_at
export_desc_reads = record {
  takes = λ bs x rest e. (
    tagged_takes export_desc 0x00 _ _ (made_case export_desc 0x00 (λ x. ExportFunc x) u32_reads (λ y a s. s))
        (tagged_takes export_desc 0x01 _ _ (made_case export_desc 0x01 (λ x. ExportTable x) u32_reads (λ y a s. s))
        (tagged_takes export_desc 0x02 _ _ (made_case export_desc 0x02 (λ x. ExportMemory x) u32_reads (λ y a s. s))
        (tagged_takes export_desc 0x03 _ none_at (made_case export_desc 0x03 (λ x. ExportGlobal x) u32_reads (λ y a s. s)) (none_case export_desc)))) bs x rest e,
    tt,
  );
  again = λ x a rest p s. export_desc_again x a rest s;
}

pub export_reads : Reads Any Any export export_at
unfolding export_at
export_reads =
    same_reads (made_reads (λ p. record { name = p.0; desc = p.1 }) (λ (e : Export). (e.name, e.desc)) (λ y. refl) (λ x. refl) (both_reads name_reads export_desc_reads))
    (λ x p. tt) (λ x p. (tt, tt)) (λ x a s. s) (λ x a s. s)

abbrev pub GlobalIn : Global → Type 0
GlobalIn g = FitsIn 129 g.init

pub global_reads : Reads GlobalIn GlobalIn global global_at
unfolding global_at
global_reads =
    same_reads (made_reads (λ p. record { type = p.0; init = p.1 }) (λ (g : Global). (g.type, g.init)) (λ y. refl) (λ x. refl) (both_reads global_type_reads (expression_reads 129)))
    (λ x p. p.1) (λ x p. (tt, p)) (λ x a s. s) (λ x a s. s)

abbrev pub ElementIn : Element → Type 0
ElementIn e = FitsIn 129 e.offset

pub element_reads : Reads ElementIn ElementIn element element_at
unfolding element_at
element_reads =
    same_reads (made_reads (λ p. record { table = p.0; offset = p.1.0; funcs = p.1.1 }) (λ (e : Element). (e.table, (e.offset, e.funcs))) (λ y. refl) (λ x. refl)
    (both_reads u32_reads (both_reads (expression_reads 129) (plain_vector u32_reads))))
    (λ x p. p.1.0) (λ x p. (tt, (p, tt))) (λ x a s. s) (λ x a s. s)

abbrev pub DataIn : DataSegment → Type 0
DataIn d = FitsIn 129 d.offset

pub data_reads : Reads DataIn DataIn data_segment data_at
unfolding data_at
data_reads =
    same_reads (made_reads (λ p. record { memory = p.0; offset = p.1.0; bytes = p.1.1 }) (λ (d : DataSegment). (d.memory, (d.offset, d.bytes))) (λ y. refl) (λ x. refl)
    (both_reads u32_reads (both_reads (expression_reads 129) bytes_reads)))
    (λ x p. p.1.0) (λ x p. (tt, (p, tt))) (λ x a s. s) (λ x a s. s)

-- ---- locals and code

length_replicate : {A : Type 0} (n : ℕ) (x : A) → length (replicate n x) ≡ n
length_replicate zero x = refl
length_replicate (suc n) x = ap suc (length_replicate n x)

pub runs_takes : (room n : ℕ) (bs : List ℕ) (ts : List ValType) (rest : List ℕ) → runs_at room n bs ≡ Some (ts, rest)
    → (a : List ℕ) × (bs ≡ a ++ rest) × ((runs : List (ℕ × ValType)) × (all_locals runs ≡ ts) × run local_run runs a × (length runs ≡ n)) × (length ts ≤ room)
unfolding runs_at
runs_takes room zero bs ts rest e =
    let q = some_pair_parts [] ts bs rest e in
    ([], q.1, ([], q.0, refl, refl), omega (arith, ap length q.0))
runs_takes room (suc n) bs ts rest e = bind_then _ _ _ e (λ c h e.
    let k = kept (leb c.0 room) (value_type_at c.1 >>= λ t. option_map (λ (s : List ValType × List ℕ). (replicate c.0 t.0 ++ s.0, s.1)) (runs_at (room - c.0) n t.1)) (ts, rest) e in
    bind_then _ _ _ k.1 (λ t h2 e. map_then _ _ _ e (λ s h3 q.
    let f = unsigned_takes 32 bs c.0 c.1 h in
    let g = (value_type_reads.takes c.1 t.0 t.1 h2).0 in
    let m = runs_takes (room - c.0) n t.1 s.0 s.1 h3 in
    let all : replicate c.0 t.0 ++ s.0 ≡ ts = fst_is _ _ q in
    let one = f.0 ++ g.0 in
    let len : c.0 + length s.0 ≡ length ts = omega (arith, ap length all, length-append (replicate c.0 t.0) s.0, length_replicate c.0 t.0) in
    let le = leb-true c.0 room k.0 in (
      one ++ m.0,
      join_found bs t.1 rest one m.0 (join_found bs c.1 t.1 f.0 g.0 f.1 g.1) (m.1 ∙ ap (λ l. m.0 ++ l) (snd_is _ _ q)),
      ((c.0, t.0) ∷ m.2.0, ap (λ l. replicate c.0 t.0 ++ l) m.2.1 ∙ all, (one, m.0, refl, (f.0, g.0, refl, f.2, g.2), m.2.2), ap suc m.2.3),
      omega (arith, len, le, m.3),
    ))))

pub runs_again : (room : ℕ) (runs : List (ℕ × ValType)) (a rest : List ℕ) → run local_run runs a → length (all_locals runs) ≤ room
    → runs_at room (length runs) (a ++ rest) ≡ Some (all_locals runs, rest)
unfolding runs_at
runs_again room [] a rest s le = ap (λ l. Some ([], l ++ rest)) s
runs_again room (r ∷ rs) a rest s le =
    let one = s.3 in
    let tail = s.1 ++ rest in
    let whole : a ++ rest ≡ one.0 ++ (one.1 ++ tail) = seam a s.0 s.1 rest s.2 ∙ seam s.0 one.0 one.1 tail one.2 in
    let len : r.0 + length (all_locals rs) ≡ length (replicate r.0 r.1 ++ all_locals rs) = omega (arith, length-append (replicate r.0 r.1) (all_locals rs), length_replicate r.0 r.1) in
    ap (runs_at room (suc (length rs))) whole
    ∙ rw (
      unsigned_again 32 one.0 r.0 (one.1 ++ tail) one.3,
      le-leb r.0 room (omega (arith, len, le)),
      value_type_reads.again r.1 one.1 tail tt one.4,
      runs_again (room - r.0) rs s.1 rest s.4 (omega (arith, len, le)),
    ) refl

abbrev pub LocalsIn : List ValType → Type 0
LocalsIn ts = length ts ≤ local_limit

pub locals_reads : Reads LocalsIn LocalsIn locals locals_at
unfolding locals_at
locals_reads = record {
  takes = λ bs ts rest e. bind_then _ _ _ e (λ n h e.
      let f = unsigned_takes 32 bs n.0 n.1 h in
      let m = runs_takes local_limit n.0 n.1 ts rest e in (
        (
          f.0 ++ m.0,
          join_found bs n.1 rest f.0 m.0 f.1 m.1,
          (m.2.0, m.2.1, (f.0, m.0, refl, subst (λ k. unsigned 32 k f.0) (sym m.2.3) f.2, m.2.2)),
        ),
        m.3,
      ));
  again = λ ts a rest p s.
      let v = s.2 in
      let fits : length (all_locals s.0) ≤ local_limit = omega (arith, ap length s.1, p) in
      ap locals_at (seam a v.0 v.1 rest v.2) ∙ rw (unsigned_again 32 v.0 (length s.0) (v.1 ++ rest) v.3, runs_again local_limit s.0 v.1 rest v.4 fits) (ap (λ l. Some (l, rest)) s.1);
}

abbrev pub code_parts : List ValType × Instrs → Language
code_parts p = sized (locals p.0 ⨾ expression p.1)

abbrev pub CodeIn : List ValType × Instrs → Type 0
CodeIn p = LocalsIn p.0 × FitsIn 129 p.1

pub code_reads : Reads CodeIn CodeIn code_parts code_at
unfolding code_at
code_reads = inside_reads (both_reads locals_reads (expression_reads 129))
