use Rattle.std.proofs.Common.{◌≡◌, ◌+◌, ◌≤◌, true, map, drop, length, Some}
use Rattle.spec_text.specs.Fields.{count_imported}
use Rattle.module_tree.specs.ModuleView.{func_type_view}
use Rattle.text_tree.specs.Views.{field_of}
use Rattle.text_resolve.specs.Views.{spaces_of}
use Rattle.assembler.specs.ModuleParts.{make_at}
use Rattle.assembler.specs.FunctionCounts.{count_defined}
use Rattle.assembler.specs.PartsView.{parts_view, with_types, are_parts_numbered, AreInRange}
use Rattle.assembler.proofs.collect.parts_of_text.Given as goal

abbrev pub invariant-loop-at : goal.invariant-loop-at
invariant-loop-at g l =
    let fields = l.text.fields.items in
    (make_at (spaces_of l.spaces) (map field_of (drop l.at fields)) l.func ≡ Some (with_types (map func_type_view l.spaces.types.items) (parts_view l.parts)))
    × (are_parts_numbered l.parts ≡ true) × AreInRange (parts_view l.parts) × (l.at ≤ length fields)
    × (l.func + count_defined (map field_of (drop l.at fields)) ≡ count_imported (map field_of fields) + count_defined (map field_of fields))

abbrev pub decreases-loop-at : goal.decreases-loop-at
decreases-loop-at g l = l.at
