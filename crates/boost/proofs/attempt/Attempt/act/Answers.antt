use Rattle.std.proofs.Common.{◌≡◌, ◌∙◌, ap, ◌++◌, ◌∷◌, [], arith}
use Rattle.spec_ledger.specs.declared.TraceStep.TheVariants.{Did}
use Rattle.spec_ledger.specs.Cells.{Cells, back}
use Rattle.spec_ledger.proofs.Ops.{back-inverse}
use Rattle.storage.specs.Counts.{Counts, closed}
use Rattle.storage.proofs.Counted.{closed-opened}
use Rattle.boost.proofs.Marking.{did_even, did_marks}
use Rattle.boost.proofs.attempt.Attempt.act.Goals as goal

pub returns-in_default-clause-err_cells : goal.returns-in_default-clause-err_cells
returns-in_default-clause-err_cells g c =
    let cells : ◌≡◌ {A = Cells} c.take_back.new.self.cells c.args.cells.now.cells =
    c.take_back.ensures.cells ∙ (λ i. back (c.in_ok-reply.ensures.inverse i) (c.in_ok-reply.ensures.cells i)) ∙ back-inverse c.args.op c.args.cells.now.cells c.use_invariant.ensures.cells in
    let unsettled : ◌≡◌ {A = Counts} c.take_back.new.self.unsettled c.args.cells.now.unsettled =
    c.take_back.ensures.unsettled ∙ ap (closed c.in_ok-reply.inverse) c.in_ok-reply.ensures.unsettled ∙ closed-opened c.in_ok-reply.inverse c.args.cells.now.unsettled c.requires.counts in
    λ i. record { cells = cells i; unsettled = unsettled i }

pub invariant_of-self-2 : goal.invariant_of-self-2
invariant_of-self-2 g c =
    let a = c.self.inside in
    let k = c.self.invariant in
    let t = c.in-Ok-push.ensures.items ∙ ap (λ x. x ++ Did c.args.op c.in_ok-reply.reply ∷ []) c.reserve.ensures.items in
    let m = c.in-Ok-push-2.ensures.items ∙ ap (λ x. x ++ c.in_ok-reply.inverse ∷ []) c.reserve-2.ensures.items in
    record {
      even = did_even a.trace.items c.push.new.self.items a.inverses.items c.push-2.new.self.items a.marks.items [] k.even k.marks_are c.args.op c.in_ok-reply.reply c.in_ok-reply.inverse t m;
      marks_are = did_marks a.trace.items c.push.new.self.items a.inverses.items c.push-2.new.self.items a.marks.items [] k.even k.marks_are c.args.op c.in_ok-reply.reply c.in_ok-reply.inverse t m;
      room = search (arith);
    }
