use Rattle.spec_ledger.specs.declared.TraceStep.TheVariants.{Opened}
use Rattle.debugger.proofs.Turning.{begun_stepped, begun_asked, begun_entered, replied_trace, answered_same, did, marked, not_left, not_done}
use Rattle.debugger.proofs.Undoing.{on_ok}
use Rattle.debugger.proofs.cursor.begin_turn.Goals as goal

pub unreachable-requires : goal.unreachable-requires
unreachable-requires g c = not_left c.args.cursor.now.machine c.requires.at.turns c.requires.goes_on c.next.new.self c.in-Leave.field-0 c.in-Leave.ensures.turn

pub unreachable-requires-in-Done : goal.unreachable-requires-in-Done
unreachable-requires-in-Done g c = not_done c.args.cursor.now.machine c.requires.at.turns c.requires.goes_on c.next.new.self c.in-Done.field-0 c.in-Done.ensures.turn

pub returns-in-Stepped-clause-turn : goal.returns-in-Stepped-clause-turn
returns-in-Stepped-clause-turn g c =
    let k = c.args.cursor.now in
    record {
      begun = begun_stepped k.machine c.next.new.self c.in-Stepped.ensures.turn c.in-Stepped.ensures.on_run;
      cells = answered_same k.machine.trace c.next.new.self.trace k.start.now.cells k.cells.cells k.undo.inverses.items k.undo.marks.items c.requires.at.cells c.in-Stepped.ensures.turn.trace;
    }

pub returns-in_ok-reply-in-Host-clause-turn : goal.returns-in_ok-reply-in-Host-clause-turn
returns-in_ok-reply-in-Host-clause-turn g c =
    let k = c.args.cursor.now in
    let r = c.in_ok-reply-in-Host in
    let trace = replied_trace k.machine c.next.new.self c.answer.new.self c.in-Host.op r.reply c.in-Host.ensures.turn c.answer.ensures.answered in
    record {
      begun = begun_asked k.machine c.next.new.self c.answer.new.self c.in-Host.op r.reply c.in-Host.ensures.turn c.answer.ensures.answered r.ensures.is_reply c.answer.ensures.on_run;
      cells = did k.machine.trace c.answer.new.self.trace k.start.now.cells k.cells.cells c.act.new.cells.cells k.undo.inverses.items c.act.new.undo.inverses.items k.undo.marks.items c.act.new.undo.marks.items c.requires.at.cells
          c.in-Host.op r.reply trace r.ensures.reply (r.ensures.undo _ c.requires.at.cells.noted);
    }

pub returns-in-Enter-clause-turn : goal.returns-in-Enter-clause-turn
returns-in-Enter-clause-turn g c =
    let k = c.args.cursor.now in
    let t = c.in-Enter.ensures.turn in
    on_ok c.enter.result _ _ (λ enters. record {
      begun = begun_entered k.machine c.next.new.self t c.in-Enter.ensures.on_run;
      cells = marked k.machine.trace c.next.new.self.trace k.start.now.cells k.cells.cells k.cells.cells k.undo.inverses.items c.enter.new.undo.inverses.items k.undo.marks.items c.enter.new.undo.marks.items c.requires.at.cells
          Opened tt t.trace (enters k.cells.cells _ c.requires.at.cells.noted);
    }) c.enter.ensures
