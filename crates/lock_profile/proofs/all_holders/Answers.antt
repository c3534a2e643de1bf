use Rattle.std.proofs.Common.{◌++◌, length, ap, ◌∙◌}
use Rattle.std.proofs.lemmas.List.{get_or_read}
use Rattle.std.specs.FinMap as finite
use Rattle.lock_profile.specs.Groups.{numbered}
use Rattle.lock_profile.proofs.Steps.{call_added}
use Rattle.lock_profile.proofs.all_holders.Goals as goal

pub loop-one-preserved : goal.loop-one-preserved
loop-one-preserved g c =
    let item = get_or_read c.args.touched.now c.loop-one.one-index c.one-item.result c.loop-one-test.true c.one-item.is finite.empty in
    call_added c.loop-one.holders.items c.add_holders.new.holders.items _ c.args.touched.now c.loop-one.one-index finite.empty c.loop-one-test.true
    (c.in_ok-add_holders.ensures ∙ ap (λ es. c.loop-one.holders.items ++ numbered (length c.loop-one.holders.items) es) (c.lock_modes.ensures ∙ ap finite.entries item)) c.loop-one.invariant
