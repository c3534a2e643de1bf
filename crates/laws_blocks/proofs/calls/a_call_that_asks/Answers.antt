use Rattle.laws_blocks.proofs.Asking as asking
use Rattle.laws_blocks.proofs.calls.a_call_that_asks.Goals as goal

pub returns : goal.returns
returns c = let unique = c.runs_are_unique.ensures.calls in record {
  level_returns = asking.level_returns;
  level_traps = asking.level_traps;
  other_type = asking.other_type;
  not_there = asking.not_there;
  four_deep = asking.four_deep;
  out_of_fuel_outside = asking.out_of_fuel_outside;
  out_of_fuel_inside = asking.out_of_fuel_inside;
  executes = asking.executes;
  not_kept = asking.not_kept unique;
  no_less_fuel = asking.no_less_fuel unique;
}
