use Rattle.std.proofs.Common.{◌≡◌, ◌<◌, ◌≤◌, ◌-◌, vec_len, vec_capacity}
use Rattle.laws_reduction.specs.Meaning.{IsOrdered}
use Rattle.interp_state.specs.Callee.{contract_of, base_of}
use Rattle.interp_state.specs.Steps.{IsCounted}
use Rattle.interp_steps.specs.StraightLine.{Walks, holding}
use Rattle.interp_steps.proofs.straight_line.hold.Given as goal

abbrev pub invariant-held : goal.invariant-held
invariant-held g l = record {
  walked : Walks (contract_of l.fn.lent) (holding (base_of l.fn.lent) l.fn.parts l.fn.first) l.made (holding (base_of l.fn.lent) l.parts l.held);
  room : vec_len l.parts.stack < vec_capacity l.parts.stack;
  ordered : IsOrdered (holding (base_of l.fn.lent) l.parts l.held);
  counted : IsCounted l.parts;
  max : l.parts.instance.memory.max ≡ l.fn.parts.instance.memory.max;
  within : l.made ≤ l.most;
}

abbrev pub decreases-held : goal.decreases-held
decreases-held g l = l.most - l.made
