use Rattle.std.proofs.Common.{◌≤◌, length}
use Rattle.lexer.specs.WordsViews.{views}
use Rattle.text_body.specs.Reading.{result_at, results_at}
use Rattle.text_body.proofs.Repeats.{Halfway}
use Rattle.text_body.proofs.parts.results.Given as goal

abbrev pub invariant-loop-found : goal.invariant-loop-found
invariant-loop-found g l = record { half : Halfway result_at (results_at (views l.fn.rest.now)) (views l.rest.now) l.found.items; within : length l.rest.now ≤ length l.fn.rest.now }

abbrev pub decreases-loop-found : goal.decreases-loop-found
decreases-loop-found g l = length l.rest.now
