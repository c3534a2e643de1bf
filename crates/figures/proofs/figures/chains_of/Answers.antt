use Rattle.std.proofs.Common.{◌↔◌, IsSome, refl, subst}
use Rattle.spec_block.specs.Worlds.{profiles_in}
use Rattle.figures.specs.Chains.{AreForward}
use Rattle.figures.proofs.figures.chains_of.Goals as goal

pub chains_from-requires-clause-forward : goal.chains_from-requires-clause-forward
chains_from-requires-clause-forward c = (subst (λ o. IsSome o ↔ AreForward (profiles_in c.args.positions.now)) c.in-Some.is c.in_ok-counts.ensures.forward).0 refl

pub returns-clause-forward : goal.returns-clause-forward
returns-clause-forward c = subst (λ o. IsSome o ↔ AreForward (profiles_in c.args.positions.now)) c.in-Some.is c.in_ok-counts.ensures.forward
