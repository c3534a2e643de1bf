use Rattle.std.proofs.Common.{◌≤◌, length}
use Rattle.lexer.specs.WordsViews.{views}
use Rattle.text_body.specs.Places.{flats_of}
use Rattle.text_body.specs.Turns.{state_of}
use Rattle.text_body.proofs.Halfway.{Parsing}
use Rattle.text_body.proofs.whole.body.Given as goal

abbrev pub invariant-loop-flats : goal.invariant-loop-flats
invariant-loop-flats g l = record {
  parsing : Parsing (views l.fn.rest.now) (state_of l.stack.items) (views l.rest.now) (flats_of l.flats.items);
  within : length l.rest.now ≤ length l.fn.rest.now;
}

abbrev pub decreases-loop-flats : goal.decreases-loop-flats
decreases-loop-flats g l = length l.rest.now
