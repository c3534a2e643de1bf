use Rattle.std.proofs.Common.{[], refl, subst}
use Rattle.serial.specs.Touches.{AreFoundBy}
use Rattle.serial.proofs.Reading.{none_found}
use Rattle.serial.proofs.Wishes.{by_it, started}
use Rattle.serial.proofs.over_view_playing.play.Goals as goal

pub play_over-requires : goal.play_over-requires
play_over-requires g c = (
  refl,
  (
    started [] c.new-touches.result.entries c.new-inverses.result.items c.new-marks.result.items refl c.new-touches.ensures.empty c.new-inverses.ensures.items c.new-marks.ensures.items,
    none_found (g.V.Reads.may_read c.args.view.now) c.new-touches.result.entries c.new-touches.ensures.empty,
  ),
)

pub returns-clause-played : goal.returns-clause-played
returns-clause-played g c =
    let now = c.play_over.new.storage in
    let ran = c.in_ok-finished.ensures in
    record { lent = ran.setting; call_is = ran.call; touched = by_it c.in_ok-finished.finished.trace now.touches.entries now.inverses.items now.marks.items ran.led.1.0 }

pub returns-clause-read : goal.returns-clause-read
returns-clause-read g c =
    let now = c.play_over.new.storage in
    let led = c.in_ok-finished.ensures.led in
    subst (λ view. AreFoundBy (g.V.Reads.may_read view) now.touches.entries) led.0 led.1.1
