use Rattle.std.proofs.Common.{◌≡◌, ◌++◌, map, take}
use Rattle.spec_text.specs.TypeUses.{names_of}
use Rattle.text_body.specs.Views.{text_of, binding_of}
use Rattle.text_fields.proofs.locals.add_names.Given as goal

abbrev pub invariant-loop-binding : goal.invariant-loop-binding
invariant-loop-binding g l = map text_of l.names.items ≡ map text_of l.initial.names.items ++ names_of (map binding_of (take l.binding-index l.bindings.items))
