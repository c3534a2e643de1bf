use Rattle.std.proofs.Common.{Some, ◌∙◌, ap}
use Rattle.std.specs.FinMap.{insert}
use Rattle.abstract_locks.proofs.Maps.{written}
use Rattle.abstract_locks.proofs.sharing.Sharing.put.Goals as goal

pub returns-clause-ok : goal.returns-clause-ok
returns-clause-ok g c = written c.self.inside.map c.insert.new.self c.args.lock (Some c.args.shared) c.in-Ok.ensures.updates.0 ∙ ap (λ m. insert m c.args.lock c.args.shared) c.self.view_is
