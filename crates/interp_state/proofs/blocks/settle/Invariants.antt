use Rattle.std.proofs.Common.{vec_len, ◌≡◌}
use Rattle.interp_state.specs.Steps.{AllSettle, IsCounted}
use Rattle.interp_state.proofs.blocks.settle.Given as goal

abbrev pub invariant-loop-parts : goal.invariant-loop-parts
invariant-loop-parts g l = record { settles : AllSettle l.initial.parts l.parts; counted : IsCounted l.parts; same : l.parts.instance ≡ l.initial.parts.instance }

abbrev pub decreases-loop-parts : goal.decreases-loop-parts
decreases-loop-parts g l = vec_len l.parts.entries
