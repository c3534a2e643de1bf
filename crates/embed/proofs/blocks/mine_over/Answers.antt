use Rattle.world.specs.Views.{world_view}
use Rattle.embed.proofs.blocks.mine_over.Goals as goal

pub returns : goal.returns
returns c =
    let mined = c.in_ok-mined.mined in
    let are = c.in_ok-mined.ensures in
    record {
      mined = mined.block;
      after = world_view mined.world;
      headline = are.headline;
      order = are.order;
      version = are.version;
      block_is = c.in_ok-block.ensures;
      next_is = c.in_ok-next.ensures;
    }
