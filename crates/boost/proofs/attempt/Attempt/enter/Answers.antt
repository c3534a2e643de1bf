use Rattle.std.proofs.Common.{◌≡◌, ◌∙◌, ap, ◌++◌, ◌∷◌, [], arith, length}
use Rattle.spec_ledger.specs.declared.TraceStep.TheVariants.{Opened}
use Rattle.spec_ledger.specs.Book.{with_step}
use Rattle.boost.proofs.Marking.{opened_even, opened_marks, with_mark}
use Rattle.boost.proofs.attempt.Attempt.enter.Goals as goal

pub invariant_of-self-2 : goal.invariant_of-self-2
invariant_of-self-2 g c =
    let a = c.self.inside in
    let k = c.self.invariant in
    let t = c.in-Ok.ensures.items ∙ ap (λ x. x ++ Opened ∷ []) c.reserve.ensures.items in
    let m = c.in-Ok-push.ensures.items ∙ ap (λ x. x ++ c.len-2.result ∷ []) c.reserve-2.ensures.items in
    let n : c.len-2.result ≡ length a.inverses.items = omega (arith, c.len-2.ensures, a.inverses.ok.0) in
    record {
      even = opened_even a.trace.items c.push.new.self.items a.inverses.items [] a.marks.items c.push-2.new.self.items k.even k.marks_are c.len-2.result n t m;
      marks_are = opened_marks a.trace.items c.push.new.self.items a.inverses.items [] a.marks.items c.push-2.new.self.items k.even k.marks_are c.len-2.result n t m;
      room = search (arith);
    }

pub returns-clause-attempt : goal.returns-clause-attempt
returns-clause-attempt g c =
    let a = c.self.inside in
    with_mark a.call a.number a.trace.items c.push.new.self.items a.inverses.items Opened tt (c.in-Ok.ensures.items ∙ ap (λ x. x ++ Opened ∷ []) c.reserve.ensures.items) ∙ ap (λ x. with_step x Opened) c.self.view_is
