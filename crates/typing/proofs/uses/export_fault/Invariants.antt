use Rattle.std.proofs.Common.{◌≡◌, ℕ, List, drop, take, map, length, []}
use Rattle.std.specs.List.{list_any}
use Rattle.std.specs.Str.{bytes_eq}
use Rattle.module_tree.specs.ModuleView.{export_view}
use Rattle.typing.specs.Names.{has_name}
use Rattle.typing.specs.Tests.{export_passes, exports_pass}
use Rattle.typing.proofs.uses.export_fault.Given as goal

abbrev pub invariant-loop-export : goal.invariant-loop-export
invariant-loop-export g l =
    (exports_pass (export_passes (length l.spaces.funcs.items) (length l.spaces.tables.items) (length l.spaces.memories.items) (length l.spaces.globals.items)) (map (λ e. e.name) (map export_view (take l.export-index l.exports.items))) (map export_view (drop l.export-index l.exports.items))
    ≡ exports_pass (export_passes (length l.spaces.funcs.items) (length l.spaces.tables.items) (length l.spaces.memories.items) (length l.spaces.globals.items)) [] (map export_view l.exports.items))
    × ((n : List ℕ) → has_name l.names n ≡ list_any (λ m. bytes_eq m n) (map (λ e. e.name) (map export_view (take l.export-index l.exports.items))))
