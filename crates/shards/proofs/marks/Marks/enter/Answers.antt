use Rattle.std.proofs.Common.{◌∙◌, ap, ◌++◌, ◌∷◌, [], arith}
use Rattle.spec_ledger.specs.declared.TraceStep.TheVariants.{Opened}
use Rattle.shards.proofs.Levels.{opened_counted, opened_none}
use Rattle.shards.proofs.marks.Marks.enter.Goals as goal

pub invariant_of-self-2 : goal.invariant_of-self-2
invariant_of-self-2 g c =
    let m = c.self.inside in
    let k = c.self.invariant in
    let more = c.in-Ok.ensures.items ∙ ap (λ x. x ++ Opened ∷ []) c.reserve.ensures.items in
    record {
      are_marks = opened_none m.steps.items c.push.new.self.items k.are_marks m.entered k.counted more;
      counted = opened_counted m.steps.items c.push.new.self.items k.are_marks m.entered k.counted more;
      room = search (arith);
    }
