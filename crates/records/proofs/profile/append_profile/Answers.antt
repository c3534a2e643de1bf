use Rattle.records.proofs.Steps.{front_on}
use Rattle.records.proofs.profile.append_profile.Goals as goal

pub returns-in_err-append_entry-clause-front : goal.returns-in_err-append_entry-clause-front
returns-in_err-append_entry-clause-front g c = front_on _ _ _ _ c.loop-entry.invariant c.append_entry.ensures.front
