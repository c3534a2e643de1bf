-- The trees of this profile, by tests: their numbers are in range, and they keep the limits on functions, locals, nesting and labels.
--
-- The definition of these limits is `ModuleFits` of `spec_modules/specs/Spells.antt`, which says them as propositions, with the size of the
-- shortest spelling: by it a spelling, and the module of a text, are stated. The other forms are stated for code and proofs:
-- `module_fits` is the same as a test, without that size and with the ranges of numbers, which the grammar gives (the type of a module
-- in memory keeps it); `expression_fits` is its part for one expression; `Fits` is `module_fits` part by part, by the two lemmas below it;
-- `IsWithin` of `module_limits` is `module_fits` with that size. `spelled_is_in_range` and `module_limits` of `laws_modules` show that a tree
-- that is spelled passes `module_fits`, and that what passes it within that size is `ModuleFits`.
use Rattle.std.specs.Prelude.{◌≡◌, refl, ℕ, ◌+◌, Bool, true, false, ◌&&◌, List, [], ◌∷◌, length, nat_le, nat_lt, nat_eq, ℤ, pos, negsuc, Option, Some, None}
use Rattle.std.specs.List.{list_all}
use Rattle.wtypes.specs.declared.Value.{Value}
use Rattle.wtypes.specs.declared.Value.TheVariants as value
use Rattle.wtypes.specs.declared.PlainInstr.{PlainInstr}
use Rattle.wtypes.specs.declared.PlainInstr.TheVariants.{Unreachable, Nop, Br, BrIf, Return, Call, CallIndirect, Drop, Select, LocalGet, LocalSet, LocalTee, GlobalGet, GlobalSet, Load, Store, MemorySize, MemoryGrow, Const, Unary, Binary, Test, Compare, Convert}
use Rattle.spec_modules.specs.Syntax.{Instr, Plain, BrTable, Block, Loop, If, Instrs, nothing, seq, Limits, ImportDesc, ImportFunc, ImportTable, ImportMemory, ImportGlobal, ExportDesc, ExportFunc, ExportTable, ExportMemory, ExportGlobal, Import, Func, Global, Export, Element, DataSegment, Module}
use Rattle.spec_modules.specs.Shape.{instrs_depth}
use Rattle.spec_modules.specs.Profile.{function_limit, local_limit, nesting_limit, label_limit}

-- ---- Numbers (Core 2.2, Values)

-- an unsigned number of 32 bits
abbrev pub is_u32 : ℕ → Bool
is_u32 n = nat_lt n 4294967296

abbrev pub is_byte : ℕ → Bool
is_byte n = nat_lt n 256

-- a number by its signed reading: below the number given, and not below its opposite
abbrev pub is_signed : ℕ → ℤ → Bool
is_signed half (pos n) = nat_lt n half
is_signed half (negsuc n) = nat_lt n half

abbrev pub value_in_range : Value → Bool
value_in_range (value.I32 z) = is_signed 2147483648 z
value_in_range (value.I64 z) = is_signed 9223372036854775808 z

abbrev pub plain_in_range : PlainInstr → Bool
plain_in_range (Br l) = is_u32 l
plain_in_range (BrIf l) = is_u32 l
plain_in_range (Call f) = is_u32 f
plain_in_range (CallIndirect t) = is_u32 t
plain_in_range (LocalGet x) = is_u32 x
plain_in_range (LocalSet x) = is_u32 x
plain_in_range (LocalTee x) = is_u32 x
plain_in_range (GlobalGet x) = is_u32 x
plain_in_range (GlobalSet x) = is_u32 x
plain_in_range (Load op align offset) = is_u32 align && is_u32 offset
plain_in_range (Store op align offset) = is_u32 align && is_u32 offset
plain_in_range (Const v) = value_in_range v
plain_in_range Unreachable = true
plain_in_range Nop = true
plain_in_range Return = true
plain_in_range Drop = true
plain_in_range Select = true
plain_in_range MemorySize = true
plain_in_range MemoryGrow = true
plain_in_range (Unary op) = true
plain_in_range (Binary op) = true
plain_in_range (Test op) = true
plain_in_range (Compare op) = true
plain_in_range (Convert op) = true

-- ---- Instructions (Core 2.4): numbers in range, and each vector of labels short enough

abbrev mutual
  pub instr_fits : Instr → Bool
  instr_fits (Plain op) = plain_in_range op
  instr_fits (BrTable ls l) = nat_le (length ls) label_limit && (list_all is_u32 ls && is_u32 l)
  instr_fits (Block r b) = instrs_fit b
  instr_fits (Loop r b) = instrs_fit b
  instr_fits (If r t e) = instrs_fit t && instrs_fit e

  pub instrs_fit : Instrs → Bool
  instrs_fit nothing = true
  instrs_fit (seq i is) = instr_fits i && instrs_fit is

-- and not nested too deep
unfoldable pub expression_fits : Instrs → Bool
expression_fits is = nat_le (instrs_depth is) nesting_limit && instrs_fit is

-- ---- Modules (Core 2.5)

abbrev pub max_fits : Option ℕ → Bool
max_fits None = true
max_fits (Some n) = is_u32 n

abbrev pub limits_fit : Limits → Bool
limits_fit l = is_u32 l.min && max_fits l.max

abbrev pub import_desc_fits : ImportDesc → Bool
import_desc_fits (ImportFunc t) = is_u32 t
import_desc_fits (ImportTable l) = limits_fit l
import_desc_fits (ImportMemory l) = limits_fit l
import_desc_fits (ImportGlobal g) = true

abbrev pub import_fits : Import → Bool
import_fits i = import_desc_fits i.desc

abbrev pub func_fits : Func → Bool
func_fits f = is_u32 f.type_index && (nat_le (length f.locals) local_limit && expression_fits f.body)

abbrev pub global_fits : Global → Bool
global_fits g = expression_fits g.init

abbrev pub export_desc_fits : ExportDesc → Bool
export_desc_fits (ExportFunc x) = is_u32 x
export_desc_fits (ExportTable x) = is_u32 x
export_desc_fits (ExportMemory x) = is_u32 x
export_desc_fits (ExportGlobal x) = is_u32 x

abbrev pub export_fits : Export → Bool
export_fits e = export_desc_fits e.desc

abbrev pub start_fits : Option ℕ → Bool
start_fits None = true
start_fits (Some f) = is_u32 f

abbrev pub element_fits : Element → Bool
element_fits e = is_u32 e.table && (expression_fits e.offset && list_all is_u32 e.funcs)

abbrev pub data_fits : DataSegment → Bool
data_fits d = is_u32 d.memory && (expression_fits d.offset && list_all is_byte d.bytes)

abbrev pub funcs_fit : List Func → Bool
funcs_fit fs = nat_le (length fs) function_limit && list_all func_fits fs

-- A module within the limits on functions, locals, nesting and labels, whose numbers are in range.
unfoldable pub module_fits : Module → Bool
module_fits m =
    list_all import_fits m.imports && (funcs_fit m.funcs && (list_all limits_fit m.tables && (list_all limits_fit m.memories
    && (list_all global_fits m.globals && (list_all export_fits m.exports && (start_fits m.start
    && (list_all element_fits m.elements && list_all data_fits m.datas)))))))

-- the same, part by part
pub record Fits (m : Module) : Type 0 where
  pub imports : list_all import_fits m.imports ≡ true
  pub funcs : funcs_fit m.funcs ≡ true
  pub tables : list_all limits_fit m.tables ≡ true
  pub memories : list_all limits_fit m.memories ≡ true
  pub globals : list_all global_fits m.globals ≡ true
  pub exports : list_all export_fits m.exports ≡ true
  pub start : start_fits m.start ≡ true
  pub elements : list_all element_fits m.elements ≡ true
  pub datas : list_all data_fits m.datas ≡ true

pub both : (a b : Bool) → a ≡ true → b ≡ true → (a && b) ≡ true
both a b p q = rw p q

pub first : (a b : Bool) → (a && b) ≡ true → a ≡ true
first true b e = refl
first false b e = e

pub second : (a b : Bool) → (a && b) ≡ true → b ≡ true
second true b e = e
second false b e = absurd (cc)

pub module_fits-from : (m : Module) → Fits m → module_fits m ≡ true
unfolding module_fits
module_fits-from m f =
    both _ _ f.imports (both _ _ f.funcs (both _ _ f.tables (both _ _ f.memories
    (both _ _ f.globals (both _ _ f.exports (both _ _ f.start (both _ _ f.elements f.datas)))))))

pub module_fits-means : (m : Module) → module_fits m ≡ true → Fits m
unfolding module_fits
module_fits-means m e =
    let e1 = second _ _ e in
    let e2 = second _ _ e1 in
    let e3 = second _ _ e2 in
    let e4 = second _ _ e3 in
    let e5 = second _ _ e4 in
    let e6 = second _ _ e5 in
    let e7 = second _ _ e6 in
    record {
      imports = first _ _ e;
      funcs = first _ _ e1;
      tables = first _ _ e2;
      memories = first _ _ e3;
      globals = first _ _ e4;
      exports = first _ _ e5;
      start = first _ _ e6;
      elements = first _ _ e7;
      datas = second _ _ e7;
    }

-- ---- Ordinals

-- these numbers rise by one from the first
abbrev pub counts_from : ℕ → List ℕ → Bool
counts_from n [] = true
counts_from n (x ∷ xs) = nat_eq x n && counts_from (n + 1) xs
