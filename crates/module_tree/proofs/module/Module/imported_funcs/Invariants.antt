use Rattle.std.proofs.Common.{◌≡◌, ◌+◌, ◌≤◌, drop, map}
use Rattle.module_tree.specs.ModuleView.{import_view}
use Rattle.module_tree.specs.Readers.{imported_funcs}
use Rattle.module_tree.proofs.module.Module.imported_funcs.Given as goal

abbrev pub invariant-loop-import : goal.invariant-loop-import
invariant-loop-import g l =
    (l.count ≤ l.import-index)
    × (l.count + imported_funcs (map import_view (drop l.import-index l.self.imports.items)) ≡ imported_funcs (map import_view l.self.imports.items))
