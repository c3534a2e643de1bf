use Rattle.serial.proofs.Levels.{left_outside, kept, dropped, may_drop, within}
use Rattle.serial.proofs.steps.leave.Goals as goal

pub take_back_to-requires-clause-unsettled : goal.take_back_to-requires-clause-unsettled
take_back_to-requires-clause-unsettled g c = let m = c.requires in may_drop m.start c.args.cells.now m.trace c.args.inverses.now.items c.args.marks.now.items m.done

pub take_back_to-requires-clause-mark : goal.take_back_to-requires-clause-mark
take_back_to-requires-clause-mark g c =
    let m = c.requires in
    within m.start c.args.cells.now m.trace c.args.inverses.now.items c.args.marks.now.items m.done c.pop.new.self.items c.in-Some.mark c.in-Some.ensures.items

pub returns-in_default : goal.returns-in_default
returns-in_default g c = λ start t d.
    left_outside start c.args.cells.now t c.args.inverses.now.items c.args.marks.now.items d c.args.keep c.args.marks.now.len c.args.marks.now.ok.0 c.in_default.ensures.cases.0 c.pop.new.self.items c.in_default.ensures.items

pub returns-then-keep : goal.returns-then-keep
returns-then-keep g c = λ start t d.
    kept start c.args.cells.now t c.args.inverses.now.items c.args.marks.now.items d c.args.keep c.if-keep.true c.pop.new.self.items c.in-Some.mark c.in-Some.ensures.items

pub returns : goal.returns
returns g c = λ start t d.
    dropped start c.args.cells.now t c.args.inverses.now.items c.args.marks.now.items d c.pop.new.self.items c.in-Some.mark c.in-Some.ensures.items c.args.keep c.if-keep.false
    c.take_back_to.new.cells c.take_back_to.new.inverses.items c.take_back_to.ensures.inverses c.take_back_to.ensures.cells c.take_back_to.ensures.unsettled
