use Rattle.std.proofs.Common.{◌∙◌, arith}
use Rattle.std.specs.BTreeMap.{get}
use Rattle.spec_ledger.specs.Cells.{lock_cmp}
use Rattle.spec_block.specs.Worlds.{profiles_in}
use Rattle.figures.specs.Counting.{number_at}
use Rattle.figures.proofs.Hot.{below_more, shared_is_told}
use Rattle.figures.proofs.Tops.{lists_long, position_there}
use Rattle.figures.proofs.hottest.shared_of.Goals as goal

pub loop-position-preserved : goal.loop-position-preserved
loop-position-preserved c = λ s.
    let n = c.loop-position.position-index in
    let es = c.entries.result.now in
    let there = position_there c.args.positions.now n c.position-item.result es c.loop-position-test.true c.position-item.is (c.entries.ensures ∙ c.profile.ensures) in
    below_more (profiles_in c.args.positions.now) n es c.loop-position.shared.items c.push_shared.new.shared.items (number_at (get lock_cmp c.args.counts.now)) s there c.requires (c.loop-position.invariant s) (c.in_ok-push_shared.ensures s)

pub returns : goal.returns
returns c = λ s.
    let told = shared_is_told (profiles_in c.args.positions.now) c.loop-position.position-index s (let size = lists_long c.args.positions.now in let end = c.loop-position-test.false in omega (arith, size, end)) in
    let so_far = c.loop-position.invariant s in (λ h. told.0 (so_far.0 h), λ h. so_far.1 (told.1 h))
