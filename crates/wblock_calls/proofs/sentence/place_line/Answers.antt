use Rattle.std.proofs.Common.{decimal, string_bytes}
use Rattle.wblock_calls.proofs.Beginning.{begins}
use Rattle.wblock_calls.proofs.sentence.place_line.Goals as goal

pub returns : goal.returns
returns c = begins (λ s. string_bytes s) c.args.name.now (decimal c.args.number) c.args.said.now c.format.result c.format.ensures.ok
