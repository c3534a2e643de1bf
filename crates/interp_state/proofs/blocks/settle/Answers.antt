use Rattle.std.proofs.Common.{refl, ◌∙◌}
use Rattle.interp_state.proofs.Settling.{settled_ordered}
use Rattle.laws_reduction.specs.Rest.{Settles_join}
use Rattle.spec_execution.specs.Turns.{none}
use Rattle.interp_state.proofs.blocks.settle.Goals as goal

pub loop-parts-init : goal.loop-parts-init
loop-parts-init g c = record { settles = λ k b. record { frees = none _; ordered = c.requires.ordered b }; counted = c.requires.counted; same = refl }

pub loop-parts-preserved : goal.loop-parts-preserved
loop-parts-preserved g c = record { settles = λ k b. Settles_join k _ _ _ (c.loop-parts.invariant.settles k b) (c.leave.ensures.settles k b); counted = c.leave.ensures.counted; same = c.leave.ensures.instance ∙ c.loop-parts.invariant.same }

pub leave-requires-clause-ordered : goal.leave-requires-clause-ordered
leave-requires-clause-ordered g c b = settled_ordered c.args.parts.now c.loop-parts.parts c.loop-parts.invariant.settles b
