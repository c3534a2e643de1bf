-- What a module exports, by name.
use Rattle.std.specs.Prelude.{◌≡◌, List, String, option_map}
use Rattle.std.specs.BTreeMap.{BTreeMap, get_by_text}
use Rattle.spec_modules.specs.Syntax.{Name, Export}
use Rattle.spec_execution.specs.Run.{exported}
use Rattle.module_tree.specs.declared.module.ExportDesc.{ExportDesc}
use Rattle.module_tree.specs.ModuleView.{export_desc_view}

-- under each name stands what is exported under it
abbrev pub AreExports : {A : Type 0} → BTreeMap (String A) ExportDesc → List Export → Type 0
AreExports named es = (name : Name) → option_map export_desc_view (get_by_text named name) ≡ exported name es
