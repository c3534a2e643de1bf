use Rattle.std.proofs.Common.{sym, ◌∙◌}
use Rattle.debugger.proofs.Turning.{whole, is_shown, none_when}
use Rattle.debugger.proofs.cursor.make_turn.Goals as goal

pub begin_turn-requires-clause-goes_on : goal.begin_turn-requires-clause-goes_on
begin_turn-requires-clause-goes_on g c =
    let p = c.args.cursor.now.machine in
    sym (c.ending.ensures (is_shown p.status c.requires.turns.goes_on)) ∙ none_when c.ending.result (sym c.is_some.ensures ∙ c.if-is_some.false)

pub returns-clause-at : goal.returns-clause-at
returns-clause-at g c =
    let first = c.args.cursor.now.machine in
    let turn = c.in_ok-end_turn.ensures.turn first c.in_ok-begin_turn.ensures.turn in
    record { turns = whole first c.end_turn.new.cursor.machine c.requires.turns turn.begun c.in_ok-end_turn.ensures.whole; cells = turn.cells }
