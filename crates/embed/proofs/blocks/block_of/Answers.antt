use Rattle.std.proofs.Common.{◌≡◌, Some}
use Rattle.embed.specs.Refusals.{RefusesBlock, block_refusal}
use Rattle.embed.proofs.Refusing.{if_refused, no_block}
use Rattle.embed.proofs.blocks.block_of.Goals as goal

pub returns-in-Err-clause-refused : goal.returns-in-Err-clause-refused
returns-in-Err-clause-refused c =
    if_refused c.refuse_block.result (λ r. block_refusal c.in-Err.refusal ≡ Some r) (RefusesBlock c.args.bytes.now)
    (λ r told. no_block c.args.bytes.now c.in-Err.refusal r c.in-Err.ensures.none told) c.refuse_block.ensures
