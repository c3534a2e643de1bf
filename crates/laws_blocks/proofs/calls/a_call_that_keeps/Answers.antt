use Rattle.laws_blocks.proofs.Rows.{keeps_run, keeps_executes, not_6, not_by_10}
use Rattle.laws_blocks.proofs.calls.a_call_that_keeps.Goals as goal

pub returns : goal.returns
returns c = let once = c.runs_are_unique.ensures.executes in record { runs = keeps_run; executes = keeps_executes; no_other_reply = not_6 once; no_less_fuel = not_by_10 once }
