use Rattle.std.proofs.Common.{IfSome, subst}
use Rattle.std.proofs.lemmas.List.Elements.{All-pop}
use Rattle.validator.specs.PositionRuns.{IsMade}
use Rattle.validator.proofs.workers.take_part.Goals as goal

pub note-requires-clause-made : goal.note-requires-clause-made
note-requires-clause-made g c κs within =
    let is = IsMade c.args.job.now in
    subst (λ o. IfSome o is) c.in-Some.is (All-pop is c.loop-made.part.items c.pop.new.self.items c.pop.result c.pop.ensures.items c.loop-made.invariant.part).1

pub loop-made-preserved : goal.loop-made-preserved
loop-made-preserved g c =
    record { runs = c.note.ensures; part = (All-pop (IsMade c.args.job.now) c.loop-made.part.items c.pop.new.self.items c.pop.result c.pop.ensures.items c.loop-made.invariant.part).0 }
