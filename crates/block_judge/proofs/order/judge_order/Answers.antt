use Rattle.std.proofs.Common.{arith}
use Rattle.block_judge.proofs.Stages.{all_known, bad_order, over_budget, room_left, order_admissible}
use Rattle.block_judge.proofs.order.judge_order.Goals as goal

pub returns-in-Some-clause-rejected : goal.returns-in-Some-clause-rejected
returns-in-Some-clause-rejected g c = bad_order c.args.calls.now c.args.order.now c.args.fuel c.in-Some.position c.in-Some.ensures.bad

pub remaining-requires : goal.remaining-requires
remaining-requires g c = all_known c.args.calls.now c.args.order.now c.in_default.ensures.good

pub returns-in_default-remaining-clause-rejected : goal.returns-in_default-remaining-clause-rejected
returns-in_default-remaining-clause-rejected g c = over_budget c.args.calls.now c.args.order.now c.args.fuel c.in_default.ensures.good c.in_default-remaining.ensures.over

pub returns-in-Some-least_with_room-clause-rejected : goal.returns-in-Some-least_with_room-clause-rejected
returns-in-Some-least_with_room-clause-rejected g c =
    room_left c.args.calls.now c.args.order.now c.args.fuel c.in_default.ensures.good (let within = c.in-Some-remaining.ensures.within in omega (arith, within)) c.in-Some-least_with_room.call c.in-Some-least_with_room.ensures.room

pub returns-clause-passed : goal.returns-clause-passed
returns-clause-passed g c =
    order_admissible c.args.calls.now c.args.fuel c.args.order.now c.in_default.ensures.good (let within = c.in-Some-remaining.ensures.within in omega (arith, within)) c.in_default-least_with_room.ensures.none
