use Rattle.std.proofs.Common.{◌∙◌, ap, subst}
use Rattle.spec_ledger.specs.Book.{IsDefined, settled}
use Rattle.miner.proofs.mined_core.close.Goals as goal

pub returns-in-Ok : goal.returns-in-Ok
returns-in-Ok g c =
    let opened = c.in-Ok.ensures.opening ∙ c.requires in
    record {
      replies = subst (λ cells. IsDefined cells c.in-Ok.closed.entries.items) opened c.in-Ok.ensures.replies;
      cells = c.in-Ok.ensures.cells ∙ ap (λ cells. settled cells c.in-Ok.closed.entries.items) opened;
      settled = c.in-Ok.ensures.settled;
    }
