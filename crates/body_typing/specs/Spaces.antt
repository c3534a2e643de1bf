-- The index spaces of a module, as they are made.
use Rattle.std.specs.Prelude.{◌≡◌, List, [], ◌∷◌, ◌++◌, Option, Some, None, map, length}
use Rattle.std.specs.List.{filter_map}
use Rattle.spec_modules.specs.Syntax.{Import, Module}
use Rattle.spec_typing.specs.Modules as modules
use Rattle.spec_typing.specs.Modules.{func_of, table_of, memory_of, global_of}
use Rattle.module_tree.specs.ModuleView.{limits_view, global_type_view}
use Rattle.body_typing.specs.declared.spaces.Spaces.{Spaces}

-- the members of an index space, with what one more import adds
abbrev pub after_import : {X : Type 0} → List X → Option X → List X
after_import xs None = xs
after_import xs (Some x) = xs ++ x ∷ []

-- these are the index spaces of imports
pub record AreImported {W : Type 0} (s : Spaces W) (imports : List Import) : Type 0 where
  pub funcs : s.funcs.items ≡ filter_map (λ i. func_of i.desc) imports
  pub tables : map limits_view s.tables.items ≡ filter_map (λ i. table_of i.desc) imports
  pub memories : map limits_view s.memories.items ≡ filter_map (λ i. memory_of i.desc) imports
  pub globals : map global_type_view s.globals.items ≡ filter_map (λ i. global_of i.desc) imports

-- these are the index spaces of the module
pub record AreSpaces {W : Type 0} (s : Spaces W) (m : Module) : Type 0 where
  pub funcs : s.funcs.items ≡ modules.func_type_indices m
  pub tables : map limits_view s.tables.items ≡ modules.tables m
  pub memories : map limits_view s.memories.items ≡ modules.memories m
  pub globals : map global_type_view s.globals.items ≡ modules.globals m
  pub imported_funcs : s.imported_funcs ≡ length (modules.imported_funcs m)
  pub imported_globals : s.imported_globals ≡ length (modules.imported_globals m)
