use Rattle.std.proofs.Common.{◌≡◌, ◌++◌, drop, map}
use Rattle.std.specs.List.{filter_map}
use Rattle.module_tree.specs.ModuleView.{func_type_view, import_view}
use Rattle.link.specs.Tests.{call_of}
use Rattle.link.proofs.imports.host_calls.Given as goal

abbrev pub invariant-loop-import : goal.invariant-loop-import
invariant-loop-import g l = l.calls.items ++ filter_map (call_of (map func_type_view l.types.items)) (map import_view (drop l.import-index l.imports.items)) ≡ filter_map (call_of (map func_type_view l.types.items)) (map import_view l.imports.items)
