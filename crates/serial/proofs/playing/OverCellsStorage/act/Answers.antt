use Rattle.std.proofs.Common.{List, ◌∷◌, ◌++◌, [], refl}
use Rattle.spec_ledger.specs.declared.TraceStep.{TraceStep}
use Rattle.spec_ledger.specs.declared.TraceStep.TheVariants.{Did}
use Rattle.serial.specs.declared.playing.OverCells.{OverCells}
use Rattle.serial.specs.Playing.{AreDone, AreDoneInLevels}
use Rattle.serial.proofs.Ending.{on_err}
use Rattle.serial.proofs.Levels.{did_one, same_done}
use Rattle.serial.proofs.playing.OverCellsStorage.act.Goals as goal

pub returns-clause-on : goal.returns-clause-on
returns-clause-on g c = λ start t d.
    let e = c.in_ok-reply.ensures in
    did_one start.cells c.args.self.now.cells c.act.new.cells t (t ++ Did c.args.op c.in_ok-reply.reply ∷ []) c.args.self.now.inverses.items c.act.new.inverses.items c.args.self.now.marks.items c.args.op c.in_ok-reply.reply d refl
    e.reply e.cells e.unsettled e.inverses

pub returns-in_err-reply-clause-rest : goal.returns-in_err-reply-clause-rest
returns-in_err-reply-clause-rest g c =
    let told : (start : OverCells g.row.A.Denot) (t : List TraceStep) → AreDoneInLevels start.cells t c.args.self.now.cells c.args.self.now.inverses.items c.args.self.now.marks.items → AreDone start.cells t c.act.new.cells c.act.new.inverses.items = λ start t d.
    same_done start.cells c.args.self.now.cells c.act.new.cells t c.args.self.now.inverses.items c.act.new.inverses.items c.in_err-reply.ensures.err c.in_err-reply.ensures.err_inverses d.done in
    on_err _ told
