use Rattle.std.proofs.Common.{◌≤◌, length, map}
use Rattle.std.specs.Prelude.{string_bytes}
use Rattle.lexer.specs.WordsViews.{views}
use Rattle.text_body.proofs.Repeats.{Halfway}
use Rattle.text_tree.specs.Reading.{next_export_at, exports_at}
use Rattle.text_tree.proofs.parts.exports.Given as goal

abbrev pub invariant-loop-found : goal.invariant-loop-found
invariant-loop-found g l = record { half : Halfway next_export_at (exports_at (views l.fn.rest.now)) (views l.rest.now) (map string_bytes l.found.items); within : length l.rest.now ≤ length l.fn.rest.now }

abbrev pub decreases-loop-found : goal.decreases-loop-found
decreases-loop-found g l = length l.rest.now
