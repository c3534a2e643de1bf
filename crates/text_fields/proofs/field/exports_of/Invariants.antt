use Rattle.std.proofs.Common.{◌≡◌, map, take}
use Rattle.std.specs.Prelude.{string_bytes}
use Rattle.module_tree.specs.ModuleView.{export_view}
use Rattle.text_fields.specs.Parts.{exported}
use Rattle.text_fields.proofs.field.exports_of.Given as goal

abbrev pub invariant-loop-item : goal.invariant-loop-item
invariant-loop-item g l = map export_view l.exports.items ≡ map (exported l.func) (map string_bytes (take l.item-index l.items.items))
