use Rattle.std.proofs.Common.{◌-◌, length}
use Rattle.lexer.specs.Views.{views, SpansRise}
use Rattle.lexer.proofs.Lists.{Half}
use Rattle.lexer.proofs.tokens.Given as goal

abbrev pub invariant-loop-bytes : goal.invariant-loop-bytes
invariant-loop-bytes g l = Half l.bytes l.rest (views l.bytes l.items.items) × SpansRise 0 l.items.items (length l.bytes - length l.rest)

abbrev pub decreases-loop-bytes : goal.decreases-loop-bytes
decreases-loop-bytes g l = length l.rest
