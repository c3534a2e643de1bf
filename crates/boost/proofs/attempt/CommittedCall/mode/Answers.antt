use Rattle.std.proofs.Common.{◌+◌, ◌∙◌, length, take, ap, sym, arith}
use Rattle.std.proofs.lemmas.List.{take_all}
use Rattle.std.specs.FinMap.{get}
use Rattle.spec_ledger.specs.Modes.{mode_at, ops_of, touched}
use Rattle.spec_ledger.specs.Book.{CommittedCall as TheEntry}
use Rattle.spec_ledger.proofs.Traces.{get-touched_by}
use Rattle.boost.proofs.Asked.{asked_more}
use Rattle.boost.proofs.attempt.CommittedCall.mode.Goals as goal

pub loop-step-preserved : goal.loop-step-preserved
loop-step-preserved g c =
    let i = c.loop-step.step-index in
    let same = c.deref-step-items.ensures.value ∙ ap (λ (e : TheEntry). e.trace) c.self.view_is in
    asked_more c.deref-step-items.result.now i _ c.args.lock c.loop-step.held c.asked_at-held.result c.loop-step-test.true
    (c.loop-step.invariant ∙ ap (λ t. mode_at c.args.lock (ops_of (take i t))) (sym same)) c.asked_at-held.ensures
    ∙ ap (λ t. mode_at c.args.lock (ops_of (take (i + 1) t))) same

pub returns : goal.returns
returns g c =
    let trace = c.args.self.now.trace in
    let inside = ap (λ (e : TheEntry). e.trace) c.self.view_is in
    let same = ap length (c.deref-step-items.ensures.value ∙ inside) in
    c.loop-step.invariant ∙ ap (λ t. mode_at c.args.lock (ops_of t)) (take_all c.loop-step.step-index trace (omega (arith, c.loop-step-test.false, same)))
    ∙ sym (get-touched_by (ops_of trace) c.args.lock) ∙ ap (λ m. get m c.args.lock) (ap touched (sym inside) ∙ ap (λ (e : TheEntry). e.modes) c.self.view_is)
