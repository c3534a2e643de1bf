use Rattle.std.proofs.Common.{◌≡◌, drop}
use Rattle.spec_execution.specs.Reduction.{same_types}
use Rattle.interp_state.proofs.elements.same_types.Given as goal

abbrev pub invariant-loop-i : goal.invariant-loop-i
invariant-loop-i l = same_types (drop l.i l.a) (drop l.i l.b) ≡ same_types l.a l.b
