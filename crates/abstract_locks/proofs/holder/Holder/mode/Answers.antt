use Rattle.std.proofs.Common.{None, Some, ◌∙◌, ap}
use Rattle.std.specs.FinMap.{get}
use Rattle.abstract_locks.proofs.Maps.{found}
use Rattle.abstract_locks.proofs.holder.Holder.mode.Goals as goal

pub returns-in-None : goal.returns-in-None
returns-in-None g c = found c.self.inside.held c.args.wanted None c.in-None.ensures.value ∙ ap (λ m. get m c.args.wanted) c.self.view_is

pub returns-in-Some : goal.returns-in-Some
returns-in-Some g c = found c.self.inside.held c.args.wanted (Some c.in-Some.mode.now) c.in-Some.ensures.value ∙ ap (λ m. get m c.args.wanted) c.self.view_is
