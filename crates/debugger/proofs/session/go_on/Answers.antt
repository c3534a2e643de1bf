use Rattle.std.proofs.Common.{ap, ◌∙◌, sym, inl, le_trans}
use Rattle.std.specs.Prelude.{Ok}
use Rattle.debugger.proofs.Keeping.{moved_more, no_break_more}
use Rattle.debugger.proofs.session.go_on.Goals as goal

pub loop-cursor-preserved : goal.loop-cursor-preserved
loop-cursor-preserved g c =
    let first = c.args.cursor.now in
    let last = c.loop-cursor.cursor in
    let next = c.turn_and_keep.new.cursor in
    let turn = c.in_ok-turn_and_keep.ensures in
    let inside = c.loop-cursor.invariant in
    let used = turn.made (ap Ok c.if-branch.true) in
    record {
      cursor = turn.cursor;
      kept = c.turn_and_keep.ensures.kept;
      reached = turn.reached;
      further = le_trans inside.further c.turn_and_keep.ensures.further;
      moved = inl (moved_more first last next inside.moved used);
      none = no_break_more c.args.breaks.now c.args.here.now next first.machine.used last.machine.used turn.cursor used (sym c.is_at_break.ensures ∙ c.if-is_at_break.false) inside.none;
    }
