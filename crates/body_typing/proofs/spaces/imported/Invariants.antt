use Rattle.std.proofs.Common.{◌≡◌, ◌++◌, drop, map}
use Rattle.std.specs.List.{filter_map}
use Rattle.spec_typing.specs.Modules.{func_of, table_of, memory_of, global_of}
use Rattle.module_tree.specs.ModuleView.{import_view, limits_view, global_type_view}
use Rattle.body_typing.proofs.spaces.imported.Given as goal

abbrev pub invariant-loop-import : goal.invariant-loop-import
invariant-loop-import g l = record {
  funcs : l.spaces.funcs.items ++ filter_map (λ i. func_of i.desc) (map import_view (drop l.import-index l.imports.items)) ≡ filter_map (λ i. func_of i.desc) (map import_view l.imports.items);
  tables : map limits_view l.spaces.tables.items ++ filter_map (λ i. table_of i.desc) (map import_view (drop l.import-index l.imports.items)) ≡ filter_map (λ i. table_of i.desc) (map import_view l.imports.items);
  memories : map limits_view l.spaces.memories.items ++ filter_map (λ i. memory_of i.desc) (map import_view (drop l.import-index l.imports.items)) ≡ filter_map (λ i. memory_of i.desc) (map import_view l.imports.items);
  globals : map global_type_view l.spaces.globals.items ++ filter_map (λ i. global_of i.desc) (map import_view (drop l.import-index l.imports.items)) ≡ filter_map (λ i. global_of i.desc) (map import_view l.imports.items);
}
