use Rattle.std.proofs.Common.{◌≡◌, true, T, List, subst, sym, ap, ◌∙◌}
use Rattle.std.specs.FinMap.{is_sorted, entries-from_sorted}
use Rattle.spec_ledger.specs.Cells.{lock_cmp}
use Rattle.lock_profile.specs.declared.Held.{Held}
use Rattle.lock_profile.specs.Groups.{pairs}
use Rattle.lock_profile.proofs.Touched.from_sorted.Goals as goal

pub returns-then-locks_rise-clause-entries : goal.returns-then-locks_rise-clause-entries
returns-then-locks_rise-clause-entries g c =
    let rises : is_sorted lock_cmp (pairs c.args.held.items) ≡ true =
    ap (λ (hs : List Held). is_sorted lock_cmp (pairs hs)) (sym c.deref.ensures.value) ∙ sym c.locks_rise.ensures ∙ c.if-locks_rise.true in
    entries-from_sorted lock_cmp (pairs c.args.held.items) (subst T (sym rises) tt)
