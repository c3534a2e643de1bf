use Rattle.std.proofs.Common.{refl}
use Rattle.spec_execution.specs.Run.{opening}
use Rattle.wblock_debug.proofs.run.refuse_start.Goals as goal

pub returns : goal.returns
returns c = λ setting call is. record { code = _; cause = c.in-Some.ensures (opening setting call) is; is_refused = refl; told = c.in_ok-text.ensures }
