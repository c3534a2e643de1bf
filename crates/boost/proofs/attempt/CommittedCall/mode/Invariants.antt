use Rattle.std.proofs.Common.{◌≡◌, take}
use Rattle.spec_ledger.specs.Modes.{mode_at, ops_of}
use Rattle.boost.proofs.attempt.CommittedCall.mode.Given as goal

abbrev pub invariant-loop-step : goal.invariant-loop-step
invariant-loop-step g l = l.held ≡ mode_at l.lock (ops_of (take l.step-index l.self.trace))
