use Rattle.std.proofs.Common.{◌≡◌, length, map}
use Rattle.spec_text.specs.Grammar.{are_unnamed}
use Rattle.text_body.specs.Places.{binding_of}
use Rattle.text_body.proofs.parts.unnamed.Given as goal

abbrev pub invariant-loop-rest : goal.invariant-loop-rest
invariant-loop-rest l = are_unnamed (map binding_of l.rest) ≡ are_unnamed (map binding_of l.bindings)

abbrev pub decreases-loop-rest : goal.decreases-loop-rest
decreases-loop-rest l = length l.rest
