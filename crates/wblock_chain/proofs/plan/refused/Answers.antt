use Rattle.std.proofs.Common.{string_bytes, subst, sym}
use Rattle.wblock_line.specs.Answers.{Upshot}
use Rattle.wblock_line.specs.Upshots.{IsRefusalWith, of_answer}
use Rattle.wblock_chain.proofs.plan.refused.Goals as goal

pub returns-in-Ok-clause-told : goal.returns-in-Ok-clause-told
returns-in-Ok-clause-told c =
    let line = string_bytes c.args.line in
    subst (λ (u : Upshot). IsRefusalWith c.args.json line u) (sym c.transition_of.ensures.same) (of_answer c.args.json line c.in-Ok.answer c.in-Ok.ensures.told)

pub returns-in-Ok-clause-beside : goal.returns-in-Ok-clause-beside
returns-in-Ok-clause-beside c = c.transition_of.ensures.beside (of_answer c.args.json (string_bytes c.args.line) c.in-Ok.answer c.in-Ok.ensures.told).writes
