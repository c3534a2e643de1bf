use Rattle.std.proofs.Common.{sym, ◌∙◌}
use Rattle.text_resolve.proofs.space.SpaceFinds.find.Goals as goal

pub returns-in-Some-clause-found : goal.returns-in-Some-clause-found
returns-in-Some-clause-found g c = sym (c.args.self.now.found c.args.piece.text.now) ∙ sym c.in-Some.ensures.value

pub returns-in-None-clause-found : goal.returns-in-None-clause-found
returns-in-None-clause-found g c = sym (c.args.self.now.found c.args.piece.text.now) ∙ sym c.in-None.ensures.value
