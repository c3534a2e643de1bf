use Rattle.std.proofs.Common.{◌≡◌, IfOk, subst}
use Rattle.spec_block.specs.Worlds.{World}
use Rattle.spec_block.specs.Bytes.{world_bytes}
use Rattle.wblock_modules.proofs.deploy.encode_extended.Goals as goal

pub returns : goal.returns
returns c = subst (λ (w : World). IfOk c.encode_world.result (λ bytes. bytes.items ≡ world_bytes w)) c.in_ok-world.ensures c.encode_world.ensures
