use Rattle.std.proofs.Common.{arith}
use Rattle.module_tree.specs.View.{ordinals}
use Rattle.tests_modules.proofs.Counted.{numbered_whole}
use Rattle.tests_modules.proofs.limits.nested.Goals as goal

pub returns : goal.returns
returns c =
    let l = c.loop-ordinal in
    record { numbered = numbered_whole l.ordinal c.args.levels (ordinals l.body.items) (omega arith) l.invariant }
