use Rattle.interp.specs.Progress.{mark_of}
use Rattle.debugger.proofs.Turning.{begun_left, left_mark, marked, ends_not}
use Rattle.debugger.proofs.Undoing.{on_ok}
use Rattle.debugger.proofs.cursor.leave_level.Goals as goal

pub unreachable-requires-in-Done : goal.unreachable-requires-in-Done
unreachable-requires-in-Done g c = ends_not c.args.cursor.now.machine c.requires.goes_on c.requires.left c.next.new.self c.in-Done.field-0 c.in-Done.ensures.turn

pub returns-in-Leave-clause-turn : goal.returns-in-Leave-clause-turn
returns-in-Leave-clause-turn g c =
    let k = c.args.cursor.now in
    let l = c.in-Leave in
    on_ok c.leave.result _ _ (λ leaves first h. record {
      begun = begun_left k.machine c.requires.goes_on c.requires.left c.next.new.self l.keep l.ensures.turn first h.begun;
      cells = marked k.machine.trace c.next.new.self.trace k.start.now.cells k.cells.cells c.leave.new.cells.cells k.undo.inverses.items c.leave.new.undo.inverses.items k.undo.marks.items c.leave.new.undo.marks.items h.cells
          (mark_of l.keep) (left_mark l.keep) l.ensures.turn.trace (leaves _ h.cells.noted);
    }) c.leave.ensures
