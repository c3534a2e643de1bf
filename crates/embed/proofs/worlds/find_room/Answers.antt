use Rattle.std.proofs.Common.{◌≡◌, ◌∙◌, ℕ, ◌+◌, Some, ap, arith}
use Rattle.world.specs.Views.{world_view}
use Rattle.embed.specs.Refusals.{IsFull, refusal}
use Rattle.embed.specs.declared.failure.Subject.TheVariants.{Deploy}
use Rattle.embed.proofs.Refusing.{if_refused}
use Rattle.embed.proofs.worlds.find_room.Goals as goal

pub returns-then-is_full-clause-full : goal.returns-then-is_full-clause-full
returns-then-is_full-clause-full c =
    let many = c.count_of-contracts.ensures.count in
    if_refused c.refuse_full.result (λ r. r ≡ refusal Deploy 6 (Some (c.count_of-contracts.result + 1))) (λ r. IsFull r (world_view c.args.world.now))
    (λ r same. (omega (arith, many, c.if-is_full.true), same ∙ ap (λ (n : ℕ). refusal Deploy 6 (Some (n + 1))) many)) c.refuse_full.ensures
