use Rattle.std.proofs.Common.{◌++◌, ◌∙◌, ap, map, sym}
use Rattle.storage.specs.Slots.{merged, with_settled}
use Rattle.storage.proofs.Merged.{end_first, end_second, none_left}
use Rattle.storage.proofs.base.merge.Goals as goal

pub returns-in_default : goal.returns-in_default
returns-in_default g c =
    let done = c.merge.all.items in
    let over = map with_settled c.merge.over.now in
    let none = none_left c.merge.base.now c.in_default.len_below in
    end_first done c.extend_from_slice.new.self.items c.merge.over.now _ c.in_ok-extend_from_slice.ensures.items (ap (λ bs. done ++ merged bs over) (sym none) ∙ c.merge.invariant)

pub returns-in_default-over : goal.returns-in_default-over
returns-in_default-over g c =
    let done = c.merge.all.items in
    let base = c.merge.base.now in
    let none = none_left c.merge.over.now c.in_default-over.len_below in
    end_second done c.extend_from_slice-in_default-over.new.self.items base _ c.in_ok-extend_from_slice-2.ensures.items
    (ap (λ os. done ++ merged base (map with_settled os)) (sym none) ∙ c.merge.invariant)
