use Rattle.serial.proofs.Reading.{still_found}
use Rattle.serial.proofs.Wishes.{of_some}
use Rattle.serial.proofs.over_view_playing.OverViewStorage.leave.Goals as goal

pub leave-requires : goal.leave-requires
leave-requires g c = let led = c.requires.1 in of_some led.0 c.args.self.now.touches.entries c.args.self.now.inverses.items c.args.self.now.marks.items led.1.1.0

pub returns-clause-on : goal.returns-clause-on
returns-clause-on g c = λ start trace led. (
  led.0,
  (
    c.leave.ensures.touches trace led.1.0,
    still_found (g.V.Reads.may_read c.args.self.now.view.now) c.args.self.now.touches.entries c.leave.new.touches.entries c.leave.ensures.found c.leave.ensures.modes led.1.1,
  ),
)
