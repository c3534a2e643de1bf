use Rattle.std.proofs.Common.{◌≡◌, Some, length}
use Rattle.embed.specs.Refusals.{LacksCall, refusal}
use Rattle.embed.specs.declared.failure.Subject.TheVariants.{Calls}
use Rattle.embed.proofs.Refusing.{if_refused}
use Rattle.embed.proofs.calling.lack_call.Goals as goal

pub returns : goal.returns
returns c =
    let calls = c.args.calls.now in
    if_refused c.refused.result (λ r. r ≡ refusal Calls 3 (Some (length calls))) (LacksCall calls c.args.number) (λ r same. (c.requires, same)) c.refused.ensures
