use Rattle.std.proofs.Common.{◌≤◌, length, map}
use Rattle.lexer.specs.WordsViews.{views}
use Rattle.text_body.specs.Places.{binding_of}
use Rattle.text_body.specs.Reading.{binding_at, next_at, bindings_at}
use Rattle.text_body.proofs.Repeats.{Halfway}
use Rattle.text_body.proofs.parts.bindings.Given as goal

abbrev pub invariant-loop-found : goal.invariant-loop-found
invariant-loop-found g l = record { half : Halfway (next_at l.part binding_at) (bindings_at l.part (views l.fn.rest.now)) (views l.rest.now) (map binding_of l.found.items); within : length l.rest.now ≤ length l.fn.rest.now }

abbrev pub decreases-loop-found : goal.decreases-loop-found
decreases-loop-found g l = length l.rest.now
