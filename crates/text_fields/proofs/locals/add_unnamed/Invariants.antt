use Rattle.std.proofs.Common.{◌≡◌, ◌++◌, map, take}
use Rattle.text_body.specs.Views.{text_of}
use Rattle.text_fields.specs.Parts.{none_of}
use Rattle.text_fields.proofs.locals.add_unnamed.Given as goal

abbrev pub invariant-loop-param : goal.invariant-loop-param
invariant-loop-param g l = map text_of l.names.items ≡ map text_of l.initial.names.items ++ none_of (take l._param-index l.params.items)
