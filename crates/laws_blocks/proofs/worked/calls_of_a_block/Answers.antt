use Rattle.laws_blocks.proofs.Judged.{enough, first, malformed, no_other_cells, no_other_version, no_third, not_absent, not_malformed, not_over_budget, nothing_met, over_budget, second, third}
use Rattle.laws_blocks.proofs.worked.calls_of_a_block.Goals as goal

pub returns : goal.returns
returns c =
    let one = c.one_block_a_spelling.ensures.one in
    let once = c.one_serial_run.ensures.one in
    let run = c.calls_one_after_another.ensures.first in
    record {
      first = first;
      second = second run;
      third = third;
      malformed = malformed;
      enough = enough run;
      over_budget = over_budget one;
      no_other_cells = no_other_cells one once run;
      no_other_version = no_other_version one;
      no_third = no_third one;
      not_absent = not_absent one;
      not_malformed = not_malformed;
      not_over_budget = not_over_budget one;
      nothing_met = nothing_met one;
    }
