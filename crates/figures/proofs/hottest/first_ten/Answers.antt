use Rattle.figures.proofs.Hot.{ten_are_there, no_more, none_yet, one_more}
use Rattle.figures.proofs.hottest.first_ten.Goals as goal

pub loop-init : goal.loop-init
loop-init c = none_yet c.args.shared.now _ c.new-hottest.ensures.items

pub returns-in_default : goal.returns-in_default
returns-in_default c = no_more c.args.shared.now c.loop.hottest.items c.loop.last c.loop.counter c.loop.invariant c.in_default.ensures

pub loop-preserved : goal.loop-preserved
loop-preserved c = one_more c.args.shared.now c.loop.hottest.items c.push.new.self.items c.loop.last c.loop.counter c.in-Some.next c.loop-test.true c.in_ok-push.ensures.items c.loop.invariant c.in-Some.ensures

pub returns : goal.returns
returns c = ten_are_there c.args.shared.now c.loop.hottest.items c.loop.last c.loop.counter c.loop-test.false c.loop.invariant
