use Rattle.std.proofs.Common.{◌+◌, ◌∙◌, sym, subst}
use Rattle.spec_ledger.specs.Cells.{IsCounter, number}
use Rattle.spec_ledger.proofs.Ops.{counter_fits, pos_mod}
use Rattle.news.proofs.reader.held_at.Goals as goal

pub returns-in-Map : goal.returns-in-Map
returns-in-Map c kind = absurd (let no = sym c.in-Map.is ∙ kind in cc)

pub returns-in-Counter : goal.returns-in-Counter
returns-in-Counter c kind = subst IsCounter (sym c.next_cell.ensures) (counter_fits _ (pos_mod (number c.args.cell + 0)))
