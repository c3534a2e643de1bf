use Rattle.std.proofs.Common.{◌≤◌, length, map}
use Rattle.lexer.specs.WordsViews.{views}
use Rattle.text_body.specs.Places.{index_of}
use Rattle.text_body.specs.Reading.{next_index_at, indices_at}
use Rattle.text_body.proofs.Repeats.{Halfway}
use Rattle.text_body.proofs.parts.indices.Given as goal

abbrev pub invariant-loop-next : goal.invariant-loop-next
invariant-loop-next g l = record { half : Halfway next_index_at (indices_at (views l.fn.rest.now)) (views l.rest.now) (map index_of l.found.items); within : length l.rest.now ≤ length l.fn.rest.now }

abbrev pub decreases-loop-next : goal.decreases-loop-next
decreases-loop-next g l = length l.rest.now
