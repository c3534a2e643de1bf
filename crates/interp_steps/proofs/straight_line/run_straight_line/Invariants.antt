use Rattle.std.proofs.Common.{◌≡◌, ◌≤◌, ◌-◌}
use Rattle.interp_state.specs.Callee.{contract_of, base_of}
use Rattle.interp_state.specs.Steps.{IsOrderedParts, IsCounted}
use Rattle.interp_state.specs.Views.{view}
use Rattle.interp_steps.specs.StraightLine.{Walks}
use Rattle.interp_steps.proofs.straight_line.run_straight_line.Given as goal

abbrev pub invariant-straight_line : goal.invariant-straight_line
invariant-straight_line g l = record {
  walked : Walks (contract_of l.fn.lent) (view (base_of l.fn.lent) l.fn.parts) l.made (view (base_of l.fn.lent) l.parts);
  ordered : IsOrderedParts l.parts;
  counted : IsCounted l.parts;
  max : l.parts.instance.memory.max ≡ l.fn.parts.instance.memory.max;
  within : l.made ≤ l.most;
  unmoved : l.made ≡ 0 → l.parts ≡ l.fn.parts;
}

abbrev pub decreases-straight_line : goal.decreases-straight_line
decreases-straight_line g l = l.most - l.made
