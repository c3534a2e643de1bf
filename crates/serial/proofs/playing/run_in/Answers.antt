use Rattle.std.proofs.Common.{[], refl, rules}
use Rattle.serial.proofs.Ending.{may_end, taken_back}
use Rattle.serial.proofs.Levels.{none_in_levels, same_in_levels}
use Rattle.serial.proofs.playing.run_in.Goals as goal

pub run_on-requires-clause-led : goal.run_on-requires-clause-led
run_on-requires-clause-led g c =
    let cells = c.args.over.now.cells in
    same_in_levels cells cells cells [] [] [] _ [] _ refl refl (search rules) (search rules) (none_in_levels cells c.requires.settled c.use_invariant.ensures.cells)

pub returns-in-Ok-clause-done : goal.returns-in-Ok-clause-done
returns-in-Ok-clause-done g c = c.in-Ok.ensures.led.done

pub take_back_to-requires-clause-unsettled : goal.take_back_to-requires-clause-unsettled
take_back_to-requires-clause-unsettled g c =
    let now = c.run_on.new.storage in
    let some = c.in-Err.ensures.rest in
    may_end c.args.over.now.cells now.cells some.0 now.inverses.items some.1 c.requires.settled

pub returns-in-Err-clause-err : goal.returns-in-Err-clause-err
returns-in-Err-clause-err g c =
    let now = c.run_on.new.storage in
    let some = c.in-Err.ensures.rest in
    taken_back c.args.over.now.cells now.cells some.0 now.inverses.items some.1 c.requires.settled c.use_invariant.ensures.cells c.take_back_to.new.cells c.take_back_to.ensures.cells c.take_back_to.ensures.unsettled
