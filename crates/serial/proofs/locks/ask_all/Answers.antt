use Rattle.std.proofs.Common.{ap}
use Rattle.lock_profile.specs.Groups.{pairs}
use Rattle.serial.proofs.Modes.{asks_more}
use Rattle.serial.proofs.locks.ask_all.Goals as goal

pub loop-step-init : goal.loop-step-init
loop-step-init g c = ap pairs c.empty_list.ensures

pub loop-step-preserved : goal.loop-step-preserved
loop-step-preserved g c = asks_more c.args.trace.now c.loop-step.step-index _ (pairs c.loop-step.asked.items) _ c.loop-step-test.true c.loop-step.invariant c.in_ok-ask_at.ensures
