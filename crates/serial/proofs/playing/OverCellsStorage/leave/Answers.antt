use Rattle.serial.proofs.Levels.{may_be_left}
use Rattle.serial.proofs.playing.OverCellsStorage.leave.Goals as goal

pub leave-requires : goal.leave-requires
leave-requires g c = let led = c.requires in may_be_left led.0.cells led.1.0 c.args.self.now.cells c.args.self.now.inverses.items c.args.self.now.marks.items led.1.1

pub returns-clause-on : goal.returns-clause-on
returns-clause-on g c = λ start t d. c.leave.ensures start.cells t d
