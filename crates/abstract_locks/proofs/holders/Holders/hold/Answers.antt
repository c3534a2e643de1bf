use Rattle.std.proofs.Common.{◌<◌, None, Some, refl, sym, ◌∙◌, ap, subst, length, get_or, set}
use Rattle.std.specs.Option.{IsSome, unwrap_or}
use Rattle.std.specs.FinMap.{empty, insert}
use Rattle.std.proofs.lemmas.Result.{on_ok_weaker}
use Rattle.abstract_locks.proofs.Calls.{row_found, row_written, written_after, each_written, still_something, something}
use Rattle.abstract_locks.proofs.holders.Holders.hold.Goals as goal

pub returns-in-Some-clause-ok : goal.returns-in-Some-clause-ok
returns-in-Some-clause-ok g c =
    let below = subst (λ ms. c.args.call < length ms) (sym c.self.view_is) c.requires in
    let there = subst (λ o. IsSome o) c.in-Some.ensures.value refl in
    let row = row_found c.self.inside.held c.self.inside.calls c.args.call below (Some c.in-Some.holder.now) c.in-Some.ensures.value in
    on_ok_weaker c.hold.result
    (λ held.
    row_written c.self.inside.held (c.get_mut.follows.lender c.hold.new.self) c.self.inside.calls c.args.call below (Some c.hold.new.self) ((c.get_mut.follows.holds c.hold.new.self).3 there).0
    ∙ (λ i. set (c.self.view_is i) c.args.call ((held ∙ ap (λ m. insert m c.args.lock c.args.mode) (row ∙ ap (λ ms. get_or ms c.args.call empty) c.self.view_is)) i)))
    c.hold.ensures.ok

pub returns-clause-ok : goal.returns-clause-ok
returns-clause-ok g c =
    let below = subst (λ ms. c.args.call < length ms) (sym c.self.view_is) c.requires in
    let row = row_found c.self.inside.held c.self.inside.calls c.args.call below None c.in_default.ensures.value in
    row_written c.self.inside.held c.insert.new.self c.self.inside.calls c.args.call below (Some c.hold-2.new.self)
    (written_after c.self.inside.held c.get_mut.follows.lender-at-none c.insert.new.self c.args.call (Some c.hold-2.new.self) c.get_mut.follows.holds-at-none c.in-Ok.ensures.updates.0)
    ∙ (λ i. set (c.self.view_is i) c.args.call ((c.in_ok-hold.ensures.ok ∙ ap (λ m. insert m c.args.lock c.args.mode) (c.new-holder.ensures ∙ row ∙ ap (λ ms. get_or ms c.args.call empty) c.self.view_is)) i))

pub invariant_of-self : goal.invariant_of-self
invariant_of-self g c =
    let there = subst (λ o. IsSome o) c.in-Some.ensures.value refl in
    each_written c.self.inside.held (c.get_mut.follows.lender c.hold.new.self) c.args.call (Some c.hold.new.self) c.self.invariant
    (still_something c.hold.result c.in-Some.holder.now c.hold.new.self c.args.lock c.args.mode c.hold.ensures.ok c.hold.ensures.err (λ e. c.self.invariant c.args.call (sym c.in-Some.ensures.value ∙ e)))
    ((c.get_mut.follows.holds c.hold.new.self).3 there).0

pub invariant_of-self-2 : goal.invariant_of-self-2
invariant_of-self-2 g c =
    each_written c.self.inside.held c.insert.new.self c.args.call (Some c.hold-2.new.self) c.self.invariant
    (λ e. something c.new-holder.result c.args.lock c.args.mode (sym c.in_ok-hold.ensures.ok ∙ ap (λ o. unwrap_or o empty) e))
    (written_after c.self.inside.held c.get_mut.follows.lender-at-none c.insert.new.self c.args.call (Some c.hold-2.new.self) c.get_mut.follows.holds-at-none c.in-Ok.ensures.updates.0)
