use Rattle.std.proofs.Common.{◌∙◌, refl}
use Rattle.shards.proofs.shared.SharedBook.close.Goals as goal

pub returns-clause-opening : goal.returns-clause-opening
returns-clause-opening g c = c.if-not-has_cells_of.ensures.0 refl ∙ c.self.view_is
