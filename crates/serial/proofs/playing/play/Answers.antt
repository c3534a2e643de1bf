use Rattle.std.proofs.Common.{[], refl, rules}
use Rattle.serial.proofs.Ending.{may_end, taken_back}
use Rattle.serial.proofs.Levels.{none_in_levels, same_in_levels}
use Rattle.serial.proofs.playing.play.Goals as goal

pub play_over-requires : goal.play_over-requires
play_over-requires g c =
    let cells = c.args.over.now.cells in
    same_in_levels cells cells cells [] [] [] _ [] _ refl refl (search rules) (search rules) (none_in_levels cells c.requires c.use_invariant.ensures.cells)

pub returns-in-Ok-clause-ok : goal.returns-in-Ok-clause-ok
returns-in-Ok-clause-ok g c = record { lent = c.in-Ok.ensures.setting; call_is = c.in-Ok.ensures.call; done = c.in-Ok.ensures.led.done }

pub take_back_to-requires-clause-unsettled : goal.take_back_to-requires-clause-unsettled
take_back_to-requires-clause-unsettled g c =
    let now = c.play_over.new.storage in
    let some = c.in-Err.ensures.rest in
    may_end c.args.over.now.cells now.cells some.0 now.inverses.items some.1 c.requires

pub returns-in-Err-clause-err : goal.returns-in-Err-clause-err
returns-in-Err-clause-err g c =
    let now = c.play_over.new.storage in
    let some = c.in-Err.ensures.rest in
    taken_back c.args.over.now.cells now.cells some.0 now.inverses.items some.1 c.requires c.use_invariant.ensures.cells c.take_back_to.new.cells c.take_back_to.ensures.cells c.take_back_to.ensures.unsettled
