use Rattle.std.proofs.Common.{◌∙◌, arith, subst, sym}
use Rattle.std.specs.Prelude.{T}
use Rattle.std.specs.FinMap.{get-from_sorted, is_sorted}
use Rattle.spec_ledger.specs.Cells.{lock_cmp}
use Rattle.storage.proofs.base.Base.find.Goals as goal

pub returns-in-Ok : goal.returns-in-Ok
returns-in-Ok g c =
    let here = get-from_sorted lock_cmp c.args.self.now c.args.lock (subst (λ cells. T (is_sorted lock_cmp cells)) c.self.view_is c.self.invariant) in
    let found = c.in-Ok.ensures.found.found c.index.result.now in
    grind (arith, c.self.view_is, here, found)

pub returns-in-Err : goal.returns-in-Err
returns-in-Err g c = sym (get-from_sorted lock_cmp c.args.self.now c.args.lock (subst (λ cells. T (is_sorted lock_cmp cells)) c.self.view_is c.self.invariant) ∙ c.in-Err.ensures.absent)
