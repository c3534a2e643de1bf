use Rattle.std.proofs.Common.{ℕ, List, ◌∙◌, subst, IfOk, IfSome}
use Rattle.spec_block.specs.Worlds.{profiles_in}
use Rattle.figures.specs.Chains.{AreHeaviest}
use Rattle.figures.proofs.figures.lengths_of.Goals as goal

pub returns-clause-counts : goal.returns-clause-counts
returns-clause-counts c =
    subst (λ (ws : List ℕ). IfOk c.sums_of.result (λ counts. IfSome counts (AreHeaviest (profiles_in c.args.positions.now) ws))) (c.deref.ensures.value ∙ c.in_ok-ones.ensures) c.sums_of.ensures.sums
