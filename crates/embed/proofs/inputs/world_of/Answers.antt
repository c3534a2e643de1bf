use Rattle.std.proofs.Common.{◌≡◌, Some}
use Rattle.embed.specs.Refusals.{RefusesWorld, world_refusal}
use Rattle.embed.proofs.Refusing.{if_refused, no_world}
use Rattle.embed.proofs.inputs.world_of.Goals as goal

pub returns-in-Err-clause-refused : goal.returns-in-Err-clause-refused
returns-in-Err-clause-refused c =
    if_refused c.refuse_world.result (λ r. world_refusal c.in-Err.refusal ≡ Some r) (RefusesWorld c.args.bytes.now)
    (λ r told. no_world c.args.bytes.now c.in-Err.refusal r c.in-Err.ensures.none c.in-Err.ensures.first told) c.refuse_world.ensures
