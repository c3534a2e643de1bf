use Rattle.std.proofs.Common.{rules}
use Rattle.wblock_line.proofs.Saying.{says_nothing, says_line}
use Rattle.wblock_line.proofs.perform.tell_why.Goals as goal

pub returns-then-is_empty : goal.returns-then-is_empty
returns-then-is_empty g c = λ t. says_nothing c.args.why.now (g.E.Sink.told c.args.err.now) (g.E.Sink.failures c.args.err.now) (search rules)

pub returns : goal.returns
returns g c = λ t. says_line c.args.why.now (g.E.Sink.told c.args.err.now) (g.E.Sink.told c.tell_line.new.err) (g.E.Sink.failures c.args.err.now) (g.E.Sink.failures c.tell_line.new.err) (search rules) (c.tell_line.ensures t)
