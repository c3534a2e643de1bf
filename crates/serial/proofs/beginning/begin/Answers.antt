use Rattle.std.proofs.Common.{inl, inr}
use Rattle.serial.proofs.beginning.begin.Goals as goal

pub returns-in-Some-clause-ended : goal.returns-in-Some-clause-ended
returns-in-Some-clause-ended g c =
    let is = c.in-Some.ensures.some in
    record { lent = is.lent; call_is = is.call_is; trace = is.trace; cause = inr is }

pub returns-in-Some-of_rejection-clause-ended : goal.returns-in-Some-of_rejection-clause-ended
returns-in-Some-of_rejection-clause-ended g c =
    let is = c.in-Some-of_rejection.ensures.some in
    record { lent = is.lent; call_is = is.call_is; trace = is.trace; cause = inl is }
