use Rattle.std.proofs.Common.{◌-◌, ◌^◌, slice_index, ap, ◌∙◌}
use Rattle.spec_block.specs.Worlds.{limits}
use Rattle.wblock_debug.proofs.PrefixSums.{limits_more}
use Rattle.wblock_debug.proofs.fuel.limits_in.Goals as goal

pub loop-position-preserved : goal.loop-position-preserved
loop-position-preserved g c =
    let ls = limits c.args.calls.now in
    limits_more ls c.args.positions.now c.loop-position.position-index c.position-item.result c.loop-position.fuel c.limit_of.result c.saturating_add-fuel.result (2 ^ 64 - 1)
    c.loop-position-test.true c.position-item.is (c.limit_of.ensures ∙ ap (slice_index ls) c.call.ensures) c.saturating_add-fuel.ensures c.loop-position.invariant
