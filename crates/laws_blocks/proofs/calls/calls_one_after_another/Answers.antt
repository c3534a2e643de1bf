use Rattle.laws_blocks.proofs.Rows.{first_executes, two_serial, not_5_again, not_one_call}
use Rattle.laws_blocks.proofs.calls.calls_one_after_another.Goals as goal

pub returns : goal.returns
returns c = let once = c.runs_are_unique.ensures.executes in record { runs = two_serial; first = first_executes; no_other_total = not_5_again once; no_fewer_calls = not_one_call once }
