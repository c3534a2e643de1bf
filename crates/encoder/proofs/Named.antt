-- The names of a module in memory are UTF-8, by their type.
use Rattle.std.proofs.Common.{◌≡◌, true, List, [], ◌∷◌, map, string_bytes, refl}
use Rattle.std.specs.List.{list_all}
use Rattle.std.specs.Str.{is_utf8}
use Rattle.std.proofs.lemmas.Str.{IsUtf8-string_bytes, is_utf8-from_IsUtf8}
use Rattle.spec_modules.specs.Limits.{both}
use Rattle.spec_modules.specs.Shortest.{shortest}
use Rattle.spec_modules.specs.Spells.{Spells}
use Rattle.laws_modules.specs.Modules.{import_is_named, export_is_named}
use Rattle.laws_modules.specs.Whole.{names_are_utf8, shortest_spells}
use Rattle.module_tree.specs.declared.module.Import.{Import}
use Rattle.module_tree.specs.declared.module.Export.{Export}
use Rattle.module_tree.specs.declared.module.Module.{Module}
use Rattle.module_tree.specs.ModuleView.{import_view, export_view}
use Rattle.module_tree.specs.Modules.{module_view}

imports_named : {A : Type 0} (is : List (Import A)) → list_all import_is_named (map import_view is) ≡ true
imports_named [] = refl
imports_named (i ∷ is) =
    both (import_is_named (import_view i)) (list_all import_is_named (map import_view is))
    (both (is_utf8 (string_bytes i.from_module)) (is_utf8 (string_bytes i.name)) (is_utf8-from_IsUtf8 (string_bytes i.from_module) (IsUtf8-string_bytes i.from_module)) (is_utf8-from_IsUtf8 (string_bytes i.name) (IsUtf8-string_bytes i.name)))
    (imports_named is)

exports_named : {A : Type 0} (es : List (Export A)) → list_all export_is_named (map export_view es) ≡ true
exports_named [] = refl
exports_named (e ∷ es) =
    both (export_is_named (export_view e)) (list_all export_is_named (map export_view es)) (is_utf8-from_IsUtf8 (string_bytes e.name) (IsUtf8-string_bytes e.name)) (exports_named es)

named : {A : Type 0} (m : Module A) → names_are_utf8 (module_view m) ≡ true
unfolding names_are_utf8
named m =
    both (list_all import_is_named (map import_view m.imports.items)) (list_all export_is_named (map export_view m.exports.items)) (imports_named m.imports.items) (exports_named m.exports.items)

pub module_spelled : {A : Type 0} (m : Module A) → Spells (shortest (module_view m)) (module_view m)
module_spelled m = shortest_spells (module_view m) m.fits (named m) m.short
