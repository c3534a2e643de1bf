use Rattle.std.proofs.Common.{sym, ◌∙◌}
use Rattle.lock_profile.proofs.Rises.{rises_on}
use Rattle.lock_profile.proofs.locks_rise.Goals as goal

pub loop-rest-preserved : goal.loop-rest-preserved
loop-rest-preserved c = rises_on (λ h. h.lock) (λ h. h.mode) c.loop-rest.rest.now c.in-len1-up.len_at_least (sym c.first_rises.ensures ∙ c.if-not-first_rises.false) ∙ c.loop-rest.invariant
