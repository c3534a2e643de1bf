use Rattle.std.proofs.Common.{◌≡◌, map, take}
use Rattle.spec_text.specs.TypeUses.{types_of}
use Rattle.text_body.specs.Views.{binding_of}
use Rattle.text_resolve.proofs.types.written_type.Given as goal

abbrev pub invariant-loop-binding : goal.invariant-loop-binding
invariant-loop-binding g l = l.types.items ≡ types_of (map binding_of (take l.binding-index l.params.items))
