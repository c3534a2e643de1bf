use Rattle.std.proofs.Common.{◌<◌, None, Some, sym, ◌∙◌, ap, subst, length, get_or, set}
use Rattle.std.specs.FinMap.{empty}
use Rattle.abstract_locks.proofs.Calls.{row_found, row_written}
use Rattle.abstract_locks.proofs.holders.Holders.take_out.Goals as goal
use Rattle.abstract_locks.proofs.holders.Holders.take_out.Goals.{in-None, in-Some}

pub returns-clause-value : goal.returns-clause-value
returns-clause-value g c =
    elim c.match-remove.branch [
      | in-None w ↦ w.result-is ∙ w.new.ensures ∙ row_found c.self.inside.held c.self.inside.calls c.args.call (subst (λ ms. c.args.call < length ms) (sym c.self.view_is) c.requires) None w.in-None.ensures.value ∙ ap (λ ms. get_or ms c.args.call empty) c.self.view_is
      | in-Some w ↦ w.result-is ∙ row_found c.self.inside.held c.self.inside.calls c.args.call (subst (λ ms. c.args.call < length ms) (sym c.self.view_is) c.requires) (Some w.in-Some.holder) w.in-Some.ensures.value ∙ ap (λ ms. get_or ms c.args.call empty) c.self.view_is
    ]

pub returns-clause-gone : goal.returns-clause-gone
returns-clause-gone g c =
    row_written c.self.inside.held c.remove.new.self c.self.inside.calls c.args.call (subst (λ ms. c.args.call < length ms) (sym c.self.view_is) c.requires) None c.remove.ensures.updates.0 ∙ ap (λ ms. set ms c.args.call empty) c.self.view_is
