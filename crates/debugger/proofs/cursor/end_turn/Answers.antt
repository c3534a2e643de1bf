use Rattle.std.proofs.Common.{◌∙◌}
use Rattle.debugger.proofs.cursor.end_turn.Goals as goal

pub loop-cursor-preserved : goal.loop-cursor-preserved
loop-cursor-preserved g c =
    let before = c.loop-cursor.invariant in
    let left = c.in_ok-leave_level.ensures in
    record { turn = λ first h. left.turn first (before.turn first h); start = left.start ∙ before.start; goes_on = left.goes_on }
