use Rattle.std.proofs.Common.{◌∙◌, sym}
use Rattle.shards.proofs.Strays.{marks_alone}
use Rattle.shards.proofs.sharded.has_marks.Goals as goal

pub returns : goal.returns
returns g c =
    let alone = marks_alone c.args.shards c.requires c.args.trace.now in
    ((λ is. sym c.steps.ensures.steps ∙ c.is_part.ensures.0 is ∙ alone), (λ same. c.is_part.ensures.1 (c.steps.ensures.steps ∙ same ∙ sym alone)))
