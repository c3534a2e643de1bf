use Rattle.std.proofs.Common.{true, [], subst, arith}
use Rattle.boost.specs.Marks.{IsLeft}
use Rattle.boost.proofs.Marking.{seen, kept_even, kept_marks, IsLeft-kept}
use Rattle.boost.proofs.attempt.Attempt.keep.Goals as goal

pub invariant_of-self-2 : goal.invariant_of-self-2
invariant_of-self-2 g c =
    let a = c.self.inside in
    let k = c.self.invariant in
    record {
      even = kept_even a.trace.items c.push.new.self.items a.inverses.items [] a.marks.items c.pop.new.self.items k.even k.marks_are c.in-Some._mark c.in-Some.ensures.items c.in-Ok.ensures.items;
      marks_are = kept_marks a.trace.items c.push.new.self.items a.inverses.items [] a.marks.items c.pop.new.self.items k.even k.marks_are c.in-Some._mark c.in-Some.ensures.items c.in-Ok.ensures.items;
      room = search (arith);
    }

pub returns-clause-left : goal.returns-clause-left
returns-clause-left g c = λ _ store.
    let a = c.self.inside in
    let k = c.self.invariant in
    subst (λ x. IsLeft x (seen a.call a.number c.push.new.self.items a.inverses.items) store store true) c.self.view_is
    (IsLeft-kept a.trace.items c.push.new.self.items a.inverses.items [] a.marks.items c.pop.new.self.items k.even k.marks_are c.in-Some._mark c.in-Some.ensures.items c.in-Ok.ensures.items a.call a.number store)
