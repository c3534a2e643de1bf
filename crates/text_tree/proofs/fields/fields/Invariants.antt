use Rattle.std.proofs.Common.{length, map}
use Rattle.lexer.specs.WordsViews.{views}
use Rattle.text_tree.specs.Places.{field_of}
use Rattle.text_tree.proofs.Halves.{Halves}
use Rattle.text_tree.proofs.fields.fields.Given as goal

abbrev pub invariant-loop-found : goal.invariant-loop-found
invariant-loop-found g l = Halves (views l.fn.rest.now) (views l.rest.now) l.before.defined l.before.started (map field_of l.found.items)

abbrev pub decreases-loop-found : goal.decreases-loop-found
decreases-loop-found g l = length l.rest.now
