use Rattle.std.proofs.Common.{length}
use Rattle.std.specs.Int.{w32, to_le_bytes}
use Rattle.spec_block.specs.Bytes.{position_bytes}
use Rattle.records.proofs.Items.{one_more}
use Rattle.block.proofs.write.append_positions.Goals as goal

pub loop-position-preserved : goal.loop-position-preserved
loop-position-preserved g c =
    one_more (position_bytes c.args.version) c.args.out.now.items (to_le_bytes w32 (length c.args.positions.now)) c.loop-position.out.items c.append_position.new.out.items c.args.positions.now c.loop-position.position-index c.position-item.result
    c.loop-position-test.true c.position-item.is c.loop-position.invariant c.in_ok-append_position.ensures.bytes
