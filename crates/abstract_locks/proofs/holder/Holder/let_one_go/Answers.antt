use Rattle.std.proofs.Common.{None, IsSome, ◌∙◌, ap, sym, subst, refl}
use Rattle.std.specs.FinMap.{get, remove}
use Rattle.abstract_locks.proofs.Maps.{found, written}
use Rattle.abstract_locks.proofs.holder.Holder.let_one_go.Goals as goal

pub returns-clause-held : goal.returns-clause-held
returns-clause-held g c =
    subst (λ o. IsSome o) (found c.self.inside.held c.in-Some.lock _ (sym c.in-Some.ensures.value) ∙ ap (λ m. get m c.in-Some.lock) c.self.view_is) refl

pub returns-clause-gone : goal.returns-clause-gone
returns-clause-gone g c = written c.self.inside.held c.pop_first.new.self c.in-Some.lock None c.in-Some.ensures.updates.0 ∙ ap (λ m. remove m c.in-Some.lock) c.self.view_is
