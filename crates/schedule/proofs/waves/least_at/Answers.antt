use Rattle.std.proofs.Common.{ap, ◌∙◌}
use Rattle.std.specs.BTreeMap.{get}
use Rattle.schedule.specs.Waves.{or_none}
use Rattle.lock_profile.proofs.Places.{derived_is}
use Rattle.schedule.proofs.waves.least_at.Goals as goal

pub returns-in-Some : goal.returns-in-Some
returns-in-Some g c = ap or_none (c.in-Some.ensures.value ∙ ap (λ R. get R c.args.least.now c.args.at) derived_is)
