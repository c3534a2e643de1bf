use Rattle.std.proofs.Common.{◌≡◌, ◌++◌, map, drop}
use Rattle.std.specs.List.{flat_map}
use Rattle.text_body.specs.Views.{text_of}
use Rattle.text_tree.specs.Views.{field_of}
use Rattle.text_fields.specs.NameLists.{names_in}
use Rattle.text_fields.proofs.spaces.names_of.Given as goal

abbrev pub invariant-loop-field : goal.invariant-loop-field
invariant-loop-field g l =
    map text_of l.names.items ++ flat_map (names_in l.sort) (map field_of (drop l.field-index l.text.fields.items)) ≡ flat_map (names_in l.sort) (map field_of l.text.fields.items)
