use Rattle.std.proofs.Common.{drop}
use Rattle.lexer.specs.WordsViews.{views}
use Rattle.lexer.proofs.Halfway.{Half}
use Rattle.lexer.proofs.words_reading.words.Given as goal

abbrev pub invariant-loop-token : goal.invariant-loop-token
invariant-loop-token g l = Half l.bytes l.tokens (drop l.token-index l.tokens) (views l.found.items)
