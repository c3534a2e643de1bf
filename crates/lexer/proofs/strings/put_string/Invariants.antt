use Rattle.std.proofs.Common.{◌≡◌, ◌++◌, drop}
use Rattle.lexer.specs.Strings.{decode, decoded, InRange}
use Rattle.lexer.proofs.strings.put_string.Given as goal

abbrev pub invariant-loop-b : goal.invariant-loop-b
invariant-loop-b g l = record {
  in_range : InRange l.state;
  same : l.found.items ++ decode l.state (drop l.b-index l.body) ≡ l.fn.found.items ++ decoded l.body;
}
