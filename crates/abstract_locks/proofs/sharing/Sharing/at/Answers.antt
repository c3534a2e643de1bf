use Rattle.std.proofs.Common.{None, Some, ◌∙◌, ap}
use Rattle.std.specs.FinMap.{get}
use Rattle.abstract_locks.proofs.Maps.{found}
use Rattle.abstract_locks.proofs.sharing.Sharing.at.Goals as goal

pub returns-in-None : goal.returns-in-None
returns-in-None g c = found c.self.inside.map c.args.lock None c.in-None.ensures.value ∙ ap (λ m. get m c.args.lock) c.self.view_is

pub returns-in-Some : goal.returns-in-Some
returns-in-Some g c = found c.self.inside.map c.args.lock (Some c.in-Some.shared.now) c.in-Some.ensures.value ∙ ap (λ m. get m c.args.lock) c.self.view_is
