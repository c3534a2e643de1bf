use Rattle.std.proofs.Common.{List, ◌≡◌, ◌∷◌, ◌++◌, [], length, refl, arith}
use Rattle.spec_ledger.specs.declared.TraceStep.{TraceStep}
use Rattle.spec_ledger.specs.declared.TraceStep.TheVariants.{Opened}
use Rattle.serial.specs.declared.playing.OverCells.{OverCells}
use Rattle.serial.specs.Playing.{AreDone, AreDoneInLevels}
use Rattle.serial.proofs.Ending.{on_err}
use Rattle.serial.proofs.Levels.{entered}
use Rattle.serial.proofs.playing.OverCellsStorage.enter.Goals as goal

pub returns-clause-on : goal.returns-clause-on
returns-clause-on g c = λ start t d.
    let size : c.len.result ≡ length c.args.self.now.inverses.items = omega (arith, c.len.ensures, c.args.self.now.inverses.ok.0) in
    entered start.cells c.args.self.now.cells t c.args.self.now.inverses.items c.args.self.now.marks.items d (t ++ Opened ∷ []) refl c.len.result size c.push.new.self.items c.in_ok-push.ensures.items

pub returns-in_err-push-clause-rest : goal.returns-in_err-push-clause-rest
returns-in_err-push-clause-rest g c =
    let told : (start : OverCells g.row.A.Denot) (t : List TraceStep) → AreDoneInLevels start.cells t c.args.self.now.cells c.args.self.now.inverses.items c.args.self.now.marks.items → AreDone start.cells t c.args.self.now.cells c.args.self.now.inverses.items = λ start t d. d.done in
    on_err _ told
