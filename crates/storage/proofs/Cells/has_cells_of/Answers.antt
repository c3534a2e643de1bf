use Rattle.std.proofs.Common.{◌≡◌, ◌∷◌, ◌∙◌, true, false, ap, sym, refl}
use Rattle.storage.proofs.Listed.{split_next, both_end, one_ends, other_ends, they_differ}
use Rattle.storage.proofs.Cells.has_cells_of.Goals as goal

pub loop-entry-preserved : goal.loop-entry-preserved
loop-entry-preserved g c =
    let xs = c.loop-entry.yielded in
    let same = c.is_same_entry.ensures.0 c.if-not-is_same_entry.false in (
      tt,
      tt,
      split_next xs c.in-Some.entry c.next.new.self _ _ c.in-Some.ensures.steps c.loop-entry.invariant.2,
      split_next xs c.in-Some.entry c.next-in-loop-entry.new.self _ _ (c.in-Some-next.ensures.steps ∙ ap (λ e. e ∷ c.next-in-loop-entry.new.self) (sym same)) c.loop-entry.invariant.3,
    )

pub returns-in_default : goal.returns-in_default
returns-in_default g c =
    let a = c.loop-entry.invariant.2 ∙ c.into_iter-entry-iterator.ensures.into_iter_gives ∙ c.entries-entry-items.ensures.cells in
    let b = c.loop-entry.invariant.3 ∙ c.entries-others.ensures.cells in
    let differ = one_ends c.args.self.now.cells c.args.other.now.cells c.loop-entry.yielded c.loop-entry.entry-iterator c.loop-entry.others a b c.in-Some.entry c.next.new.self c.in-Some.ensures.steps c.in_default.ensures.steps.0 in
    ((λ e. cc), (λ same. absurd (differ same)))

pub returns-then-not-is_same_entry : goal.returns-then-not-is_same_entry
returns-then-not-is_same_entry g c =
    let a = c.loop-entry.invariant.2 ∙ c.into_iter-entry-iterator.ensures.into_iter_gives ∙ c.entries-entry-items.ensures.cells in
    let b = c.loop-entry.invariant.3 ∙ c.entries-others.ensures.cells in
    let differ = they_differ c.args.self.now.cells c.args.other.now.cells c.loop-entry.yielded c.loop-entry.entry-iterator c.loop-entry.others a b c.in-Some.entry c.in-Some-next.other c.next.new.self c.next-in-loop-entry.new.self
    c.in-Some.ensures.steps c.in-Some-next.ensures.steps (λ same. let no : false ≡ true = sym c.if-not-is_same_entry.true ∙ c.is_same_entry.ensures.1 same in cc) in
    ((λ e. cc), (λ same. absurd (differ same)))

pub returns-in_default-next : goal.returns-in_default-next
returns-in_default-next g c =
    let a = c.loop-entry.invariant.2 ∙ c.into_iter-entry-iterator.ensures.into_iter_gives ∙ c.entries-entry-items.ensures.cells in
    let b = c.loop-entry.invariant.3 ∙ c.entries-others.ensures.cells in
    ((λ e. both_end c.args.self.now.cells c.args.other.now.cells c.loop-entry.yielded c.loop-entry.entry-iterator c.loop-entry.others a b c.in-None.ensures.steps.0 c.in_default-next.ensures.steps.0), (λ same. refl))

pub returns : goal.returns
returns g c =
    let a = c.loop-entry.invariant.2 ∙ c.into_iter-entry-iterator.ensures.into_iter_gives ∙ c.entries-entry-items.ensures.cells in
    let b = c.loop-entry.invariant.3 ∙ c.entries-others.ensures.cells in
    let differ = other_ends c.args.self.now.cells c.args.other.now.cells c.loop-entry.yielded c.loop-entry.entry-iterator c.loop-entry.others a b c.in-Some-next-2._more c.next-2.new.self c.in-None.ensures.steps.0 c.in-Some-next-2.ensures.steps in
    ((λ e. cc), (λ same. absurd (differ same)))
