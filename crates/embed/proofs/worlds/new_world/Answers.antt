use Rattle.world.specs.Views.{world_view}
use Rattle.embed.proofs.worlds.new_world.Goals as goal

pub returns : goal.returns
returns c = record { world = world_view c.empty_world-empty.result; empty = c.empty_world-empty.ensures; is = c.in_ok-bytes.ensures }
