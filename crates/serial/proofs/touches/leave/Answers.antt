use Rattle.serial.proofs.Stepping.{leaves_dropped, leaves_kept, leaves_outside, mark_within, may_drop}
use Rattle.serial.proofs.touches.leave.Goals as goal

pub take_back_to-requires-clause-touched : goal.take_back_to-requires-clause-touched
take_back_to-requires-clause-touched g c = may_drop c.requires.trace c.args.touches.now.entries c.args.inverses.now.items c.args.marks.now.items c.requires.are

pub take_back_to-requires-clause-mark : goal.take_back_to-requires-clause-mark
take_back_to-requires-clause-mark g c =
    mark_within c.requires.trace c.args.touches.now.entries c.args.inverses.now.items c.args.marks.now.items c.requires.are c.pop.new.self.items c.in-Some.mark c.in-Some.ensures.items

pub returns-in_default-clause-touches : goal.returns-in_default-clause-touches
returns-in_default-clause-touches g c = λ t d.
    leaves_outside t c.args.touches.now.entries c.args.inverses.now.items c.args.marks.now.items d c.args.keep c.args.marks.now.len c.args.marks.now.ok.0 c.in_default.ensures.cases.0 c.pop.new.self.items c.in_default.ensures.items

pub returns-then-keep-clause-touches : goal.returns-then-keep-clause-touches
returns-then-keep-clause-touches g c = λ t d.
    leaves_kept t c.args.touches.now.entries c.args.inverses.now.items c.args.marks.now.items d c.args.keep c.if-keep.true c.pop.new.self.items c.in-Some.mark c.in-Some.ensures.items

pub returns-clause-touches : goal.returns-clause-touches
returns-clause-touches g c = λ t d.
    leaves_dropped t c.args.touches.now.entries c.args.inverses.now.items c.args.marks.now.items d c.args.keep c.if-keep.false c.pop.new.self.items c.in-Some.mark c.in-Some.ensures.items
    c.take_back_to.new.touches.entries c.take_back_to.new.inverses.items c.take_back_to.ensures.inverses c.take_back_to.ensures.found c.take_back_to.ensures.later c.take_back_to.ensures.modes
