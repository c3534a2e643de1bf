use Rattle.std.proofs.Common.{refl}
use Rattle.debugger.proofs.cursor.copy.Goals as goal

pub returns : goal.returns
returns g c = record { machine = c.in_ok-copy.ensures; cells = c.in_ok-copy-2.ensures.cells; inverses = c.in_ok-copy_undo.ensures.inverses; marks = c.in_ok-copy_undo.ensures.marks; start = refl }
