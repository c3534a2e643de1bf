use Rattle.std.proofs.Common.{false, subst, arith}
use Rattle.boost.specs.Marks.{IsLeft}
use Rattle.boost.proofs.Marking.{seen, mark_within, dropped_even, dropped_marks, IsLeft-dropped}
use Rattle.boost.proofs.attempt.Attempt.take_back.Goals as goal

pub take_back_to-requires-clause-mark : goal.take_back_to-requires-clause-mark
take_back_to-requires-clause-mark g c =
    let a = c.self.inside in
    let k = c.self.invariant in
    mark_within a.trace.items a.trace.items a.inverses.items a.inverses.items a.marks.items c.pop.new.self.items k.even k.marks_are c.in-Some.mark c.in-Some.ensures.items

pub invariant_of-self-2 : goal.invariant_of-self-2
invariant_of-self-2 g c =
    let a = c.self.inside in
    let k = c.self.invariant in
    let is = c.take_back_to.new.inverses.items in
    record {
      even = dropped_even a.trace.items c.push.new.self.items a.inverses.items is a.marks.items c.pop.new.self.items k.even k.marks_are c.in-Some.mark c.in-Some.ensures.items c.in-Ok.ensures.items c.take_back_to.ensures.inverses;
      marks_are = dropped_marks a.trace.items c.push.new.self.items a.inverses.items is a.marks.items c.pop.new.self.items k.even k.marks_are c.in-Some.mark c.in-Some.ensures.items c.in-Ok.ensures.items c.take_back_to.ensures.inverses;
      room = search (arith);
    }

pub returns-clause-left : goal.returns-clause-left
returns-clause-left g c = λ _.
    let a = c.self.inside in
    let k = c.self.invariant in
    let is = c.take_back_to.new.inverses.items in
    subst (λ x. IsLeft x (seen a.call a.number c.push.new.self.items is) c.args.cells.now c.take_back_to.new.cells false) c.self.view_is
    (IsLeft-dropped a.trace.items c.push.new.self.items a.inverses.items is a.marks.items c.pop.new.self.items k.even k.marks_are c.in-Some.mark c.in-Some.ensures.items c.in-Ok.ensures.items c.take_back_to.ensures.inverses
    a.call a.number c.args.cells.now c.take_back_to.new.cells c.take_back_to.ensures.cells c.take_back_to.ensures.unsettled)
