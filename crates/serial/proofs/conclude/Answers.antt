use Rattle.std.proofs.Common.{refl}
use Rattle.serial.proofs.Ending.{executed}
use Rattle.serial.proofs.conclude.Goals as goal

pub returns-clause-executed : goal.returns-clause-executed
returns-clause-executed g c = λ played run receipt trace start done settled are.
    executed played.setting played.call start c.args.cells.now played c.args.inverses.now.items (record { lent = refl; call_is = refl; done = done }) run settled are
    c.args.receipt receipt c.returned.result c.returned.ensures c.end_alone-2.new.cells.cells c.end_alone-2.ensures.cells
    c.args.trace.now trace c.in-Ok.touched c.in-Ok.ensures
