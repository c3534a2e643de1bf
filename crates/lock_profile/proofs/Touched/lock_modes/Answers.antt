use Rattle.std.proofs.Common.{ap, sym, ◌∙◌}
use Rattle.std.specs.FinMap.{entries, entries-from_sorted}
use Rattle.spec_ledger.specs.Cells.{lock_cmp}
use Rattle.lock_profile.specs.Groups.{pairs}
use Rattle.lock_profile.proofs.Touched.lock_modes.Goals as goal

pub returns : goal.returns
returns g c = ap pairs c.deref.ensures.value ∙ sym (ap entries (sym c.self.view_is) ∙ entries-from_sorted lock_cmp (pairs c.self.inside.held.items) c.self.invariant)
