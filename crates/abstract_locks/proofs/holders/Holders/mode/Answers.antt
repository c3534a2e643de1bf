use Rattle.std.proofs.Common.{◌<◌, None, Some, sym, ◌∙◌, ap, subst, length, get_or}
use Rattle.std.specs.FinMap.{empty, get, get-empty}
use Rattle.spec_ledger.specs.Cells.{lock_cmp}
use Rattle.abstract_locks.proofs.Calls.{row_found}
use Rattle.abstract_locks.proofs.holders.Holders.mode.Goals as goal

pub returns-in-None : goal.returns-in-None
returns-in-None g c =
    sym (get-empty lock_cmp c.args.lock)
    ∙ ap (λ m. get m c.args.lock) (row_found c.self.inside.held c.self.inside.calls c.args.call (subst (λ ms. c.args.call < length ms) (sym c.self.view_is) c.requires) None c.in-None.ensures.value ∙ ap (λ ms. get_or ms c.args.call empty) c.self.view_is)

pub returns-in-Some : goal.returns-in-Some
returns-in-Some g c =
    c.mode.ensures
    ∙ ap (λ m. get m c.args.lock) (row_found c.self.inside.held c.self.inside.calls c.args.call (subst (λ ms. c.args.call < length ms) (sym c.self.view_is) c.requires) (Some c.in-Some.holder.now) c.in-Some.ensures.value ∙ ap (λ ms. get_or ms c.args.call empty) c.self.view_is)
