use Rattle.std.proofs.Common.{arith, ◌∙◌, ap}
use Rattle.std.specs.Prelude.{Ok}
use Rattle.publish.specs.Publication.{starts}
use Rattle.publish.proofs.Keeping.{gone_nowhere}
use Rattle.publish.proofs.Sweeping.{swept_more, swept_admissible}
use Rattle.publish.proofs.Publishing.fill.Goals as goal

pub loop-call-init : goal.loop-call-init
loop-call-init g c = record { all = c.count-call-end.ensures; gone_on = gone_nowhere c.args.self.now; swept = starts }

pub loop-call-preserved : goal.loop-call-preserved
loop-call-preserved g c =
    let all = c.loop-call.invariant.all in
    let step = swept_more c.args.self.now c.loop-call.self c.take_alone.new.self c.loop-call.call c.in_ok-take_alone.field-0 c.loop-call.invariant.gone_on c.loop-call.invariant.swept (omega arith) c.in_ok-take_alone.ensures.answer
    (λ e. c.take_alone.ensures.taken (c.in_ok-take_alone.was ∙ ap (λ b. Ok b) e)) (λ e. c.take_alone.ensures.left (c.in_ok-take_alone.was ∙ ap (λ b. Ok b) e)) in
    record { all = all; gone_on = step.0; swept = step.1 }

pub returns-clause-admissible : goal.returns-clause-admissible
returns-clause-admissible g c =
    let all = c.loop-call.invariant.all in
    swept_admissible c.args.self.now c.loop-call.self c.loop-call.call c.loop-call.invariant.gone_on c.use_invariant.ensures (omega arith) c.loop-call.invariant.swept
