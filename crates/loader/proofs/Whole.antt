-- A module from its parts.
use Rattle.std.proofs.Common.{◌≡◌, ℕ, Bool, true, false, List, [], ◌∷◌, length, Option, Some, None, refl, ap, ◌∙◌}
use Rattle.std.specs.Prelude.{option_map, ◌==◌, if◌then◌else◌}
use Rattle.spec_modules.specs.Syntax.{FuncType, Limits, Import, Func, Global, Export, Element, DataSegment, Module}
use Rattle.spec_modules.specs.Reading.{Read, ◌>>=◌}
use Rattle.laws_modules.specs.ReadingModules.{if_empty, skip, slot_at, list_at, func_type_at, import_at, indices_at, table_type_at, limits_at, global_at, export_at, made_at, u32_at, element_at, entries_at, data_at, header_at, finished, module_at}
use Rattle.loader.specs.Tail.{tail_at}

then_is : {A B : Type 0} (o : Option A) (f : A → Option B) (x : A) (y : Option B) → o ≡ Some x → f x ≡ y → (o >>= f) ≡ y
then_is o f x y e h = ap (λ z. z >>= f) e ∙ h

-- items, and the bytes after them
abbrev ItemsRead : Type 0 → Type 0
ItemsRead X = List X × List ℕ

abbrev one_module : List FuncType → List Import → List Limits → List Limits → List Global → List Export → Option ℕ → List Element → List Func → List DataSegment → Module
one_module types imports tables memories globals exports start elements funcs datas = record {
  types = types;
  imports = imports;
  funcs = funcs;
  tables = tables;
  memories = memories;
  globals = globals;
  exports = exports;
  start = start;
  elements = elements;
  datas = datas;
}

module _ (types : List FuncType) (imports : List Import) (tables memories : List Limits) (globals : List Global) (exports : List Export) (start : Option ℕ) (elements : List Element) (is : List ℕ) where
  abbrev with : List Func × List DataSegment → Module
  with t = one_module types imports tables memories globals exports start elements t.0 t.1

  finished_with : (b : Bool) (fs : List Func) (ds : List DataSegment) (rest : List ℕ) → (length fs == length is) ≡ b
      → finished is (with (fs, ds)) rest ≡ option_map with (if length fs == length is then if_empty (fs, ds) rest else None)
  finished_with true fs ds [] e = rw e refl
  finished_with true fs ds (b ∷ bs) e = rw e refl
  finished_with false fs ds rest e = rw e refl

  from_datas : (fs : List Func) (o : Read (List DataSegment))
      → (o >>= λ ds. finished is (with (fs, ds.0)) ds.1) ≡ option_map with (o >>= λ ds. if length fs == length is then if_empty (fs, ds.0) ds.1 else None)
  from_datas fs None = refl
  from_datas fs (Some ds) = finished_with (length fs == length is) fs ds.0 ds.1 refl

  from_funcs : (o : Read (List Func))
      → (o >>= λ fs. list_at 11 data_at fs.1 >>= λ ds. finished is (with (fs.0, ds.0)) ds.1)
      ≡ option_map with (o >>= λ fs. list_at 11 data_at fs.1 >>= λ ds. if length fs.0 == length is then if_empty (fs.0, ds.0) ds.1 else None)
  from_funcs None = refl
  from_funcs (Some fs) = from_datas fs.0 (list_at 11 data_at fs.1)

  from_tail : (bs : List ℕ)
      → (slot_at 10 (entries_at is) [] bs >>= λ fs. list_at 11 data_at fs.1 >>= λ ds. finished is (with (fs.0, ds.0)) ds.1) ≡ option_map with (tail_at is bs)
  unfolding tail_at
  from_tail bs = from_funcs (slot_at 10 (entries_at is) [] bs)

module _ (bytes b c : List ℕ) (types : ItemsRead FuncType) (imports : ItemsRead Import) (indices : List ℕ × List ℕ) (tables memories : ItemsRead Limits) (globals : ItemsRead Global) (exports : ItemsRead Export)
    (start : Option ℕ × List ℕ) (elements : ItemsRead Element)
    (head : header_at bytes ≡ Some b) (skipped : skip b ≡ Some c)
    (e1 : list_at 1 func_type_at c ≡ Some types)
    (e2 : list_at 2 import_at types.1 ≡ Some imports)
    (e3 : slot_at 3 indices_at [] imports.1 ≡ Some indices)
    (e4 : list_at 4 table_type_at indices.1 ≡ Some tables)
    (e5 : list_at 5 limits_at tables.1 ≡ Some memories)
    (e6 : list_at 6 global_at memories.1 ≡ Some globals)
    (e7 : list_at 7 export_at globals.1 ≡ Some exports)
    (e8 : slot_at 8 (made_at (λ f. Some f) u32_at) None exports.1 ≡ Some start)
    (e9 : list_at 9 element_at start.1 ≡ Some elements) where
  abbrev pub read_with : List Func × List DataSegment → Module
  read_with = with types.0 imports.0 tables.0 memories.0 globals.0 exports.0 start.0 elements.0 indices.0

  pub module_is : module_at bytes ≡ option_map read_with (tail_at indices.0 elements.1)
  unfolding module_at
  module_is =
      then_is _ _ _ _ head (then_is _ _ _ _ skipped (then_is _ _ _ _ e1 (then_is _ _ _ _ e2 (then_is _ _ _ _ e3 (then_is _ _ _ _ e4 (then_is _ _ _ _ e5
      (then_is _ _ _ _ e6 (then_is _ _ _ _ e7 (then_is _ _ _ _ e8 (then_is _ _ _ _ e9
      (from_tail types.0 imports.0 tables.0 memories.0 globals.0 exports.0 start.0 elements.0 indices.0 elements.1)))))))))))
