use Rattle.interp.specs.Callee.{setting_view}
use Rattle.debugger.proofs.Turning.{started, answered_none}
use Rattle.debugger.proofs.cursor.open.Goals as goal

pub returns-in-Ok-clause-at : goal.returns-in-Ok-clause-at
returns-in-Ok-clause-at g c =
    let machine = c.in_ok-machine.machine in
    record {
      turns = started (setting_view c.args.version c.args.contracts.now) c.args.call.now machine c.in_ok-machine.ensures.start c.in_ok-machine.ensures.on_run;
      cells = answered_none machine.trace c.args.start.now.cells c.in-Ok.cells.cells c.nothing_noted.result.inverses.items c.nothing_noted.result.marks.items c.in_ok-machine.ensures.start.trace c.in-Ok.ensures.cells c.nothing_noted.ensures.marks;
    }
