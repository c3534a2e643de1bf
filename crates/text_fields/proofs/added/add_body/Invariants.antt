use Rattle.std.proofs.Common.{◌≡◌, map, drop}
use Rattle.std.specs.List.{flat_map}
use Rattle.spec_text.specs.TypeUses.{inline_of_flat}
use Rattle.module_tree.specs.ModuleView.{func_type_view}
use Rattle.text_body.specs.Views.{flat_of}
use Rattle.text_fields.specs.AddedTypes.{added}
use Rattle.text_fields.proofs.added.add_body.Given as goal

abbrev pub invariant-loop-flat : goal.invariant-loop-flat
invariant-loop-flat g l =
    added (map func_type_view l.types.items) (flat_map inline_of_flat (map flat_of (drop l.flat-index l.flats.items))) ≡ added (map func_type_view l.initial.types.items) (flat_map inline_of_flat (map flat_of l.flats.items))
