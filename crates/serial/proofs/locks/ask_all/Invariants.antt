use Rattle.std.proofs.Common.{◌≡◌, take}
use Rattle.lock_profile.specs.Groups.{pairs}
use Rattle.serial.specs.Asking.{asks}
use Rattle.serial.proofs.locks.ask_all.Given as goal

abbrev pub invariant-loop-step : goal.invariant-loop-step
invariant-loop-step g l = pairs l.asked.items ≡ asks (take l.step-index l.trace)
