use Rattle.world.specs.Views.{world_view}
use Rattle.embed.proofs.worlds.cells_of.Goals as goal

pub returns-clause-cells : goal.returns-clause-cells
returns-clause-cells c = record { world = world_view c.in_ok-read.read; spelled = c.in_ok-read.ensures.spelled; is = c.into_parts-contracts.ensures.cells }
