use Rattle.std.proofs.Common.{[], refl, subst}
use Rattle.serial.specs.Touches.{AreFoundBy}
use Rattle.serial.proofs.Reading.{none_found}
use Rattle.serial.proofs.Wishes.{by_it, started}
use Rattle.serial.proofs.over_view_playing.play_begun.Goals as goal

pub run_on-requires-clause-led : goal.run_on-requires-clause-led
run_on-requires-clause-led g c = (
  refl,
  (
    started [] c.new-touches.result.entries c.new-inverses.result.items c.new-marks.result.items refl c.new-touches.ensures.empty c.new-inverses.ensures.items c.new-marks.ensures.items,
    none_found (g.V.Reads.may_read c.args.view.now) c.new-touches.result.entries c.new-touches.ensures.empty,
  ),
)

pub returns-clause-touched : goal.returns-clause-touched
returns-clause-touched g c =
    let now = c.run_on.new.storage in
    let led = c.in_ok-run_on.ensures.led in
    by_it c.run_on.new.machine.trace now.touches.entries now.inverses.items now.marks.items led.1.0

pub returns-clause-read : goal.returns-clause-read
returns-clause-read g c =
    let now = c.run_on.new.storage in
    let led = c.in_ok-run_on.ensures.led in
    subst (λ view. AreFoundBy (g.V.Reads.may_read view) now.touches.entries) led.0 led.1.1
