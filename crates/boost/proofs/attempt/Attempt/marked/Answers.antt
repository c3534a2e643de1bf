use Rattle.std.proofs.Common.{◌≡◌, List, [], length, map, sym, ◌∙◌, ap, arith}
use Rattle.std.proofs.lemmas.List.{take_all}
use Rattle.spec_ledger.specs.declared.TraceStep.{TraceStep}
use Rattle.spec_ledger.specs.Book.{standing_at}
use Rattle.spec_ledger.specs.Modes.{ops_of, touched}
use Rattle.boost.proofs.Remarking.{standing-marks, one_more}
use Rattle.boost.proofs.attempt.Attempt.marked.Goals as goal

pub loop-mark-preserved : goal.loop-mark-preserved
loop-mark-preserved g c =
    one_more c.args.marks.now c.loop-mark.mark-index _ c.loop-mark-test.true c.requires c.loop-mark.noted.items c.note_mark.new.noted.items c.loop-mark.trace.items c.push.new.self.items c.loop-mark.invariant.0 c.in-Ok.ensures.items c.loop-mark.invariant.1 c.in_ok-note_mark.ensures

pub invariant_of-result : goal.invariant_of-result
invariant_of-result g c =
    let all = c.reserve.ensures.items ∙ c.loop-mark.invariant.0 ∙ take_all c.loop-mark.mark-index c.args.marks.now (omega (arith, c.loop-mark-test.false)) in
    let none : ops_of c.reserve.new.self.items ≡ [] = ap ops_of all ∙ c.requires in
    record {
      even = ap length c.new.ensures.items ∙ ap length (sym (standing-marks c.reserve.new.self.items none));
      marks_are = c.loop-mark.invariant.1 ∙ ap (λ t. map length (standing_at t).marks) (sym {A = List TraceStep} c.reserve.ensures.items);
      room = search (arith);
    }

pub returns : goal.returns
returns g c =
    let all = c.reserve.ensures.items ∙ c.loop-mark.invariant.0 ∙ take_all c.loop-mark.mark-index c.args.marks.now (omega (arith, c.loop-mark-test.false)) in
    λ i. record { call = c.args.call; number = c.args.number; trace = all i; modes = touched (all i); inverses = c.new.ensures.items i }
