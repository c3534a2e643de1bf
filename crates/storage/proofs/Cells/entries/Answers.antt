use Rattle.std.proofs.Common.{◌<◌, ◌^◌, length, ◌∙◌, ap, subst, sym}
use Rattle.std.specs.FinMap.{entries}
use Rattle.storage.specs.Slots.{merged}
use Rattle.storage.proofs.Merged.{merged_entries, merged_fits}
use Rattle.storage.proofs.Cells.entries.Goals as goal

pub returns-clause-cells : goal.returns-clause-cells
returns-clause-cells g c =
    c.new.ensures
    ∙ ap (λ bs. merged bs c.iter.result) c.as_slice.ensures.cells
    ∙ ap (merged c.self.inside.base) c.iter.ensures.rest
    ∙ merged_entries c.self.inside.base c.self.inside.slots.entries c.as_slice.ensures.sorted c.iter.ensures.ordered
    ∙ ap (λ s. entries s.cells) c.self.view_is

pub returns-clause-fits : goal.returns-clause-fits
returns-clause-fits g c =
    subst (λ cells. length cells < 2 ^ 63) (sym (c.new.ensures ∙ ap (λ bs. merged bs c.iter.result) c.as_slice.ensures.cells))
    (merged_fits c.self.inside.base c.iter.result c.self.inside.slots.entries c.iter.ensures.rest c.self.invariant.few)
