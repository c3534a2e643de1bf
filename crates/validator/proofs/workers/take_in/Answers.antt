use Rattle.std.proofs.Common.{IfSome, IfOk, subst}
use Rattle.std.proofs.lemmas.List.Elements.{All-pop}
use Rattle.std.proofs.lemmas.Result.{IfOk-at_ok}
use Rattle.validator.specs.PositionRuns.{AreMade}
use Rattle.validator.proofs.workers.take_in.Goals as goal

pub take_part-requires-clause-part : goal.take_part-requires-clause-part
take_part-requires-clause-part g c κs within =
    let are = AreMade c.args.job.now in
    let popped = All-pop (λ part. IfOk part (λ p. are p.made.items)) c.loop-part.parts.items c.pop.new.self.items c.pop.result c.pop.ensures.items c.loop-part.invariant.part in
    let one = subst (λ o. IfSome o (λ part. IfOk part (λ p. are p.made.items))) c.in-Some.is popped.1 in
    IfOk-at_ok (λ p. are p.made.items) c.in_ok-part.was one

pub loop-part-preserved : goal.loop-part-preserved
loop-part-preserved g c =
    let are = AreMade c.args.job.now in
    let popped = All-pop (λ part. IfOk part (λ p. are p.made.items)) c.loop-part.parts.items c.pop.new.self.items c.pop.result c.pop.ensures.items c.loop-part.invariant.part in
    record { runs = c.take_part.ensures; part = popped.0 }
