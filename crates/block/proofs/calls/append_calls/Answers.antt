use Rattle.std.proofs.Common.{◌++◌, [], ◌∷◌, length}
use Rattle.std.specs.Int.{w32, to_le_bytes}
use Rattle.spec_block.specs.Bytes.{call_bytes}
use Rattle.records.proofs.Items.{one_more}
use Rattle.block.proofs.calls.append_calls.Goals as goal

pub loop-call-preserved : goal.loop-call-preserved
loop-call-preserved g c =
    one_more call_bytes c.args.out.now.items ((0x57 ∷ 0x42 ∷ 0x43 ∷ 0x4C ∷ []) ++ to_le_bytes w32 1 ++ to_le_bytes w32 (length c.args.calls.now)) c.loop-call.out.items c.append_call.new.out.items c.args.calls.now c.loop-call.call-index c.call-item.result
    c.loop-call-test.true c.call-item.is c.loop-call.invariant c.in_ok-append_call.ensures
