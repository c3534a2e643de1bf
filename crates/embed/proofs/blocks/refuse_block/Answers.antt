use Rattle.std.proofs.Common.{◌≡◌, ◌∙◌, Some, ap, sym}
use Rattle.embed.specs.Refusals.{block_refusal}
use Rattle.embed.proofs.Refusing.{if_refused}
use Rattle.embed.proofs.blocks.refuse_block.Goals as goal

pub returns-in-Some : goal.returns-in-Some
returns-in-Some c =
    if_refused c.with_sentence.result (λ r. r ≡ c.in-Some.told) (λ r. block_refusal c.args.refusal ≡ Some r)
    (λ r same. sym c.block_refusal.ensures ∙ (c.in-Some.is ∙ ap (λ x. Some x) (sym same))) c.with_sentence.ensures
