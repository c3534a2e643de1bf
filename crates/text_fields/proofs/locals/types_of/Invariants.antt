use Rattle.std.proofs.Common.{◌≡◌, map, take}
use Rattle.spec_text.specs.TypeUses.{types_of}
use Rattle.text_body.specs.Views.{binding_of}
use Rattle.text_fields.proofs.locals.types_of.Given as goal

abbrev pub invariant-loop-local : goal.invariant-loop-local
invariant-loop-local g l = l.types.items ≡ types_of (map binding_of (take l.local-index l.locals.items))
