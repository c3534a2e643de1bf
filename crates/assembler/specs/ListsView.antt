-- The module that lists in memory stand for.
use Rattle.std.specs.Prelude.{◌≡◌, true, nat_le, length}
use Rattle.spec_modules.specs.Syntax as syntax
use Rattle.spec_modules.specs.Limits.{module_fits}
use Rattle.spec_modules.specs.Profile.{byte_limit}
use Rattle.spec_modules.specs.Shortest.{shortest}
use Rattle.module_tree.specs.ModuleView.{module_of}
use Rattle.assembler.specs.declared.builder_lists.Lists.{Lists}

abbrev pub lists_view : {A : Type 0} → Lists A → syntax.Module
lists_view l = module_of l.types.items l.imports.items l.funcs.items l.tables.items l.memories.items l.globals.items l.exports.items l.start l.elements.items l.datas.items

-- within the limits of this profile
abbrev pub IsWithin : syntax.Module → Type 0
IsWithin m = (module_fits m ≡ true) × (nat_le (length (shortest m)) byte_limit ≡ true)

abbrev pub IsTooLarge : syntax.Module → Type 0
IsTooLarge m = IsWithin m → ⊥
