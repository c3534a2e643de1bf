use Rattle.std.proofs.Common.{refl}
use Rattle.serial.specs.Asking.{modes_in, with_last}
use Rattle.serial.proofs.Joining.{falls_here, falls_next, modes_next, modes_end}
use Rattle.serial.proofs.locks.hold_all.Goals as goal

pub loop-one-init : goal.loop-one-init
loop-one-init g c = record { rises = c.requires.rises; behind = c.requires.behind; modes = refl }

pub hold-requires-clause-rises : goal.hold-requires-clause-rises
hold-requires-clause-rises g c = c.loop-one.invariant.rises

pub hold-requires-clause-behind : goal.hold-requires-clause-behind
hold-requires-clause-behind g c = falls_here c.args.rest.now c.loop-one.one-index _ c.loop-one-test.true c.loop-one.last.lock c.loop-one.invariant.behind

pub loop-one-preserved : goal.loop-one-preserved
loop-one-preserved g c =
    let l = c.loop-one in
    record {
      rises = c.in_ok-next.ensures.rises;
      behind = falls_next c.args.rest.now l.one-index _ c.loop-one-test.true l.last.lock c.in_ok-next.next.lock c.in_ok-next.ensures.lock l.invariant.behind;
      modes = modes_next c.args.rest.now l.one-index _ c.loop-one-test.true (modes_in (with_last l.held.items l.last)) _ _ c.in_ok-next.ensures.modes l.invariant.modes;
    }

pub returns-clause-modes : goal.returns-clause-modes
returns-clause-modes g c = modes_end c.args.rest.now c.loop-one.one-index _ _ c.loop-one-test.false c.loop-one.invariant.modes

pub returns-clause-rises : goal.returns-clause-rises
returns-clause-rises g c = c.loop-one.invariant.rises
