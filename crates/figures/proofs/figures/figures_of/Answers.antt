use Rattle.std.proofs.Common.{rules, ◌↔◌, IsSome, List, subst, ap, ◌∙◌}
use Rattle.spec_block.specs.Worlds.{Position, profiles_in}
use Rattle.figures.specs.Chains.{AreForward}
use Rattle.figures.specs.Outcomes.{all_kinds, counts_among}
use Rattle.figures.proofs.figures.figures_of.Goals as goal

pub returns-clause-figures : goal.returns-clause-figures
returns-clause-figures c = record {
  forward = subst (λ (ps : List Position). IsSome c.in_ok-chains_of.field-0 ↔ AreForward (profiles_in ps)) c.positions-2.ensures c.in_ok-chains_of.ensures.forward;
  chains = search rules;
  total = search rules;
  hottest = search rules;
  outcomes = c.in_ok-outcomes_of.ensures ∙ ap (counts_among all_kinds) c.positions-4.ensures;
}
