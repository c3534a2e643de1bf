use Rattle.laws_blocks.proofs.Rows.{adds_run, adds_with_2, adds_executes, not_13, not_by_2, not_within_2, only_12}
use Rattle.laws_blocks.proofs.calls.a_call_that_adds.Goals as goal

pub returns : goal.returns
returns c = let once = c.runs_are_unique.ensures.executes in record {
  runs = adds_run;
  out_of_fuel = adds_with_2;
  executes = adds_executes;
  no_other_value = not_13 once;
  no_less_fuel = not_by_2 once;
  no_other_end = not_within_2 once;
  no_other_cells = only_12 once;
}
