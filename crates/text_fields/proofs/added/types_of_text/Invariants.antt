use Rattle.std.proofs.Common.{◌≡◌, ◌++◌, map, drop}
use Rattle.std.specs.List.{flat_map, filter_map}
use Rattle.spec_text.specs.TypeUses.{inline_of_field}
use Rattle.spec_text.specs.Fields.{declared_type}
use Rattle.module_tree.specs.ModuleView.{func_type_view}
use Rattle.text_tree.specs.Views.{field_of}
use Rattle.text_fields.specs.AddedTypes.{added}
use Rattle.text_fields.proofs.added.types_of_text.Given as goal

abbrev pub invariant-loop-field : goal.invariant-loop-field
invariant-loop-field g l =
    map func_type_view l.types.items ++ filter_map declared_type (map field_of (drop l.field-index l.text.fields.items)) ≡ filter_map declared_type (map field_of l.text.fields.items)

abbrev pub invariant-loop-field-2 : goal.invariant-loop-field-2
invariant-loop-field-2 g l =
    added (map func_type_view l.types.items) (flat_map inline_of_field (map field_of (drop l.field-index l.text.fields.items))) ≡ added (filter_map declared_type (map field_of l.text.fields.items)) (flat_map inline_of_field (map field_of l.text.fields.items))
