use Rattle.std.proofs.Common.{◌≡◌, drop, map, false}
use Rattle.module_tree.specs.ModuleView.{import_view}
use Rattle.typing.specs.Tests.{imports_pass, any_table, any_memory}
use Rattle.typing.proofs.rules.check_imports.Given as goal

abbrev pub invariant-loop-import : goal.invariant-loop-import
invariant-loop-import g l = record {
  judged : imports_pass l.types l.seen.table l.seen.memory (map import_view (drop l.import-index l.imports.items)) ≡ imports_pass l.types false false (map import_view l.imports.items);
  table : any_table l.seen.table (map import_view (drop l.import-index l.imports.items)) ≡ any_table false (map import_view l.imports.items);
  memory : any_memory l.seen.memory (map import_view (drop l.import-index l.imports.items)) ≡ any_memory false (map import_view l.imports.items);
}
