-- What contracts see of index spaces.
use Rattle.std.specs.Prelude.{ℕ, List, map, drop}
use Rattle.spec_text.specs.Spaces as spaces
use Rattle.module_tree.specs.ModuleView.{func_type_view}
use Rattle.text_body.specs.Views.{text_of, flats_of}
use Rattle.text_body.specs.declared.flat.Flat.{Flat}
use Rattle.spec_text.specs.FieldsOfBytes as N
use Rattle.text_resolve.specs.declared.spaces.Spaces.{Spaces}

abbrev pub spaces_of : {A : Type 0} → Spaces A → spaces.Spaces
spaces_of s = record {
  types = map func_type_view s.types.items;
  type_names = map text_of s.type_names.names.items;
  funcs = map text_of s.funcs.names.items;
  tables = map text_of s.tables.names.items;
  memories = map text_of s.memories.names.items;
  globals = map text_of s.globals.names.items;
}

-- the flat instructions from a place on
abbrev pub flats_from : {A : Type 0} → ℕ → List (Flat A) → List N.Flat
flats_from at flats = flats_of (drop at flats)
