-- What contracts see of parts that are listed from the last to the first.
use Rattle.std.specs.Prelude.{◌≡◌, Bool, true, List, [], map, reverse}
use Rattle.std.specs.List.{list_all}
use Rattle.spec_modules.specs.Syntax as S
use Rattle.spec_modules.specs.Limits.{limits_fit, import_fits, global_fits, export_fits, start_fits, element_fits, data_fits}
use Rattle.module_tree.specs.ModuleView.{import_view, func_view, limits_view, global_view, export_view, element_view, data_view, are_numbered}
use Rattle.text_fields.specs.Parts.{body_fits}
use Rattle.assembler.specs.declared.parts.Parts.{Parts}

-- the module of these parts and no types
abbrev pub parts_view : {A : Type 0} → Parts A → S.Module
parts_view p = record {
  types = [];
  imports = reverse (map import_view p.imports.items);
  funcs = reverse (map func_view p.funcs.items);
  tables = reverse (map limits_view p.tables.items);
  memories = reverse (map limits_view p.memories.items);
  globals = reverse (map global_view p.globals.items);
  exports = reverse (map export_view p.exports.items);
  start = p.start;
  elements = reverse (map element_view p.elements.items);
  datas = reverse (map data_view p.datas.items);
}

-- the ordinals of each expression rise by one from 0
abbrev pub are_parts_numbered : {A : Type 0} → Parts A → Bool
are_parts_numbered p = are_numbered p.funcs.items p.globals.items p.elements.items p.datas.items

-- the same with these types
abbrev pub with_types : List S.FuncType → S.Module → S.Module
with_types types m = record m { types = types }

-- the numbers of all parts are in range, and their expressions within the limits on nesting and labels
pub record AreInRange (m : S.Module) : Type 0 where
  pub imports : list_all import_fits m.imports ≡ true
  pub bodies : list_all body_fits m.funcs ≡ true
  pub tables : list_all limits_fit m.tables ≡ true
  pub memories : list_all limits_fit m.memories ≡ true
  pub globals : list_all global_fits m.globals ≡ true
  pub exports : list_all export_fits m.exports ≡ true
  pub start : start_fits m.start ≡ true
  pub elements : list_all element_fits m.elements ≡ true
  pub datas : list_all data_fits m.datas ≡ true
