use Rattle.world.specs.Views.{world_view}
use Rattle.wblock_blocks.proofs.mine.mine_over.Goals as goal

pub returns-clause-mines : goal.returns-clause-mines
returns-clause-mines g c =
    let mined = c.in_ok-mined.mined in
    let are = c.in_ok-mined.ensures in
    record {
      block = mined.block;
      next = world_view mined.world;
      headline = are.headline;
      version = are.version;
      order = are.order;
      left = mined.left.items;
      is_left = are.left;
      done = c.in_ok-change.ensures.done;
    }
