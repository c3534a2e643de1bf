use Rattle.std.proofs.Common.{sym, ◌∙◌, ap, subst}
use Rattle.storage.specs.Counts.{AreCounts, closed}
use Rattle.storage.proofs.Counted.{AreCounts-empty, closed-opened}
use Rattle.serial.proofs.read_write_set.leave.Goals as goal

pub returns-in_ok-inverse-in-Added-clause-settled : goal.returns-in_ok-inverse-in-Added-clause-settled
returns-in_ok-inverse-in-Added-clause-settled g c =
    let undone = c.in_ok-inverse-in-Added.inverse in
    c.settle.ensures.unsettled ∙ ap (closed undone) c.in_ok-inverse-in-Added.ensures.unsettled
    ∙ closed-opened undone c.args.cells.now.unsettled (subst AreCounts (sym c.requires.settled) AreCounts-empty) ∙ c.requires.settled
