use Rattle.std.proofs.Common.{ap, subst, ◌∙◌, ◌∷◌}
use Rattle.laws_reduction.specs.Meaning.{Item}
use Rattle.interp_state.specs.Steps.{AreNumbered}
use Rattle.interp_state.specs.Views.{item_of, items_of}
use Rattle.interp_state.specs.Numbering.{plain_item}
use Rattle.interp_steps.proofs.straight_line.plain.Goals as goal

pub returns-in-Plain-clause-first : goal.returns-in-Plain-clause-first
returns-in-Plain-clause-first g c = record {
  ordinal = c.in-Plain.field-0;
  here =
      ap (items_of {A = g.row.A.Denot}) c.first.ensures
      ∙ ap (λ (x : Item). x ∷ items_of {A = g.row.A.Denot} c.first.result.1.now) (ap (item_of {A = g.row.A.Denot}) c.in-Plain.is ∙ plain_item g.row.A.Denot c.in-Plain.field-0 c.in-Plain.op);
  numbered = λ n. (subst (AreNumbered {A = g.row.A.Denot}) c.first.ensures n).1;
}
