use Rattle.laws_blocks.proofs.Rows.{refused_run, refused_executes, not_number_4}
use Rattle.laws_blocks.proofs.calls.a_call_that_is_refused.Goals as goal

pub returns : goal.returns
returns c = record { runs = refused_run; executes = refused_executes; no_other_number = not_number_4 c.runs_are_unique.ensures.executes }
