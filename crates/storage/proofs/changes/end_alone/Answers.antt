use Rattle.std.proofs.Common.{◌∙◌}
use Rattle.storage.proofs.changes.end_alone.Goals as goal

pub returns-else-stand-clause-unsettled : goal.returns-else-stand-clause-unsettled
returns-else-stand-clause-unsettled g c = c.take_back_to.ensures.unsettled ∙ c.requires.alone
