use Rattle.std.proofs.Common.{◌≡◌, ◌-◌, ◌≤◌, None, Some, refl, sym, ap, subst, ◌∙◌, arith}
use Rattle.std.specs.Option.{IsSome}
use Rattle.std.specs.FinMap.{get}
use Rattle.spec_ledger.specs.Cells.{counter, number, set_at}
use Rattle.storage.specs.declared.Slot.{Slot}
use Rattle.storage.specs.Slots.{base_of, cells_in, counts_in, cell_back}
use Rattle.storage.proofs.Slots.{count_found, slot_cell, slot_number, slot_below, cells_changed, counts_changed, cells_kept, counts_kept, cells_written, types_written, none_emptied, tops_written}
use Rattle.storage.proofs.close_slot.Goals as goal

pub unreachable-requires : goal.unreachable-requires
unreachable-requires g c = let none = ap number (count_found c.args.slots.now c.args.lock None c.in_default.ensures.value c.args.floor) in omega (arith, none, c.requires.unsettled)

pub overflow_sub-next : goal.overflow_sub-next
overflow_sub-next g c = omega (arith, slot_number (base_of c.args.base.now) c.args.slots.now c.args.lock (Some c.in-Some.slot.now) c.in-Some.slot.now refl c.in-Some.ensures.value c.args.floor, c.requires.unsettled)

pub returns-then-is_needless-clause-cells : goal.returns-then-is_needless-clause-cells
returns-then-is_needless-clause-cells g c =
    let base = base_of c.args.base.now in
    let slot = c.in-Some.slot.now in
    let there = subst (λ o. IsSome o) c.in-Some.ensures.value refl in
    let kept = cells_kept base c.args.slots.now c.args.lock (Some slot) slot refl c.in-Some.ensures.value (c.get_mut.follows.lender slot) ((c.get_mut.follows.holds slot).3 there).0 in
    c.drop_slot.ensures.cells base
    ∙ ap (λ m. set_at m c.args.lock (get base c.args.lock)) kept
    ∙ ap (λ o. set_at (cells_in base c.args.slots.now.entries) c.args.lock o)
    (sym (c.is_needless.ensures.cell c.if-is_needless.true) ∙ c.former_cell.ensures ∙ ap (cell_back c.args.inverse) (slot_cell base c.args.slots.now c.args.lock (Some slot) slot refl c.in-Some.ensures.value))

pub returns-then-is_needless-clause-counts : goal.returns-then-is_needless-clause-counts
returns-then-is_needless-clause-counts g c =
    let base = base_of c.args.base.now in
    let slot = c.in-Some.slot.now in
    let there = subst (λ o. IsSome o) c.in-Some.ensures.value refl in
    let kept = counts_kept base c.args.slots.now c.args.lock (Some slot) slot refl c.in-Some.ensures.value (c.get_mut.follows.lender slot) ((c.get_mut.follows.holds slot).3 there).0 c.args.floor in
    let less : (slot.unsettled - 1) - c.args.floor ≡ (slot.unsettled - c.args.floor) - 1 = omega arith in
    c.drop_slot.ensures.counts c.args.floor
    ∙ ap (λ m. set_at m c.args.lock None) kept
    ∙ ap (λ n. set_at (counts_in c.args.floor c.args.slots.now.entries) c.args.lock (counter n))
    (sym (c.is_needless.ensures.left c.if-is_needless.true) ∙ c.count_above.ensures ∙ less ∙ ap (λ n. n - 1) (slot_number base c.args.slots.now c.args.lock (Some slot) slot refl c.in-Some.ensures.value c.args.floor))

pub returns-then-is_needless-clause-below : goal.returns-then-is_needless-clause-below
returns-then-is_needless-clause-below g c =
    let slot = c.in-Some.slot.now in
    let there = subst (λ o. IsSome o) c.in-Some.ensures.value refl in
    let kept = counts_kept (base_of c.args.base.now) c.args.slots.now c.args.lock (Some slot) slot refl c.in-Some.ensures.value (c.get_mut.follows.lender slot) ((c.get_mut.follows.holds slot).3 there).0 c.args._top in
    none_emptied (counts_in c.args._top c.args.slots.now.entries) (counts_in c.args._top c.drop_slot.new.slots.entries) c.args.lock
    (c.drop_slot.ensures.counts c.args._top ∙ ap (λ m. set_at m c.args.lock None) kept) c.requires.below

pub returns-then-is_needless-clause-types : goal.returns-then-is_needless-clause-types
returns-then-is_needless-clause-types g c =
    let base = base_of c.args.base.now in
    let slot = c.in-Some.slot.now in
    let there = subst (λ o. IsSome o) c.in-Some.ensures.value refl in
    let kept = cells_kept base c.args.slots.now c.args.lock (Some slot) slot refl c.in-Some.ensures.value (c.get_mut.follows.lender slot) ((c.get_mut.follows.holds slot).3 there).0 in
    types_written (cells_in base c.args.slots.now.entries) (cells_in base c.drop_slot.new.slots.entries) c.args.lock c.former_cell.result
    (c.drop_slot.ensures.cells base ∙ ap (λ m. set_at m c.args.lock (get base c.args.lock)) kept ∙ ap (λ o. set_at (cells_in base c.args.slots.now.entries) c.args.lock o) (sym (c.is_needless.ensures.cell c.if-is_needless.true)))
    c.note_types.ensures

pub returns-then-is_needless-clause-few : goal.returns-then-is_needless-clause-few
returns-then-is_needless-clause-few g c = omega (arith, c.drop_slot.ensures.few, (c.get_mut.follows.holds c.in-Some.slot.now).2)

pub returns-else-is_needless-clause-few : goal.returns-else-is_needless-clause-few
returns-else-is_needless-clause-few g c =
    let next : Slot = record { cell = c.former_cell.result; unsettled = c.in-Some.slot.now.unsettled - 1 } in
    omega (arith, (c.get_mut.follows.holds next).2)

pub returns-else-is_needless-clause-cells : goal.returns-else-is_needless-clause-cells
returns-else-is_needless-clause-cells g c =
    let slot = c.in-Some.slot.now in
    let there = subst (λ o. IsSome o) c.in-Some.ensures.value refl in
    let next : Slot = record { cell = c.former_cell.result; unsettled = slot.unsettled - 1 } in
    cells_changed (base_of c.args.base.now) c.args.slots.now c.args.lock (Some slot) slot refl c.in-Some.ensures.value (c.get_mut.follows.lender next) next ((c.get_mut.follows.holds next).3 there).0 (cell_back c.args.inverse) c.former_cell.ensures

pub returns-else-is_needless-clause-counts : goal.returns-else-is_needless-clause-counts
returns-else-is_needless-clause-counts g c =
    let slot = c.in-Some.slot.now in
    let there = subst (λ o. IsSome o) c.in-Some.ensures.value refl in
    let next : Slot = record { cell = c.former_cell.result; unsettled = slot.unsettled - 1 } in
    let less : (slot.unsettled - 1) - c.args.floor ≡ (slot.unsettled - c.args.floor) - 1 = omega arith in
    counts_changed (base_of c.args.base.now) c.args.slots.now c.args.lock (Some slot) slot refl c.in-Some.ensures.value (c.get_mut.follows.lender next) next ((c.get_mut.follows.holds next).3 there).0 c.args.floor (λ n. n - 1) less

pub returns-else-is_needless-clause-below : goal.returns-else-is_needless-clause-below
returns-else-is_needless-clause-below g c =
    let slot = c.in-Some.slot.now in
    let there = subst (λ o. IsSome o) c.in-Some.ensures.value refl in
    let next : Slot = record { cell = c.former_cell.result; unsettled = slot.unsettled - 1 } in
    let fits : slot.unsettled ≤ c.args._top = slot_below (base_of c.args.base.now) c.args.slots.now c.args.lock (Some slot) slot refl c.in-Some.ensures.value c.args._top c.requires.below in
    tops_written c.args.slots.now (c.get_mut.follows.lender next) c.args.lock next ((c.get_mut.follows.holds next).3 there).0 c.args._top (omega (arith, fits)) c.requires.below

pub returns-else-is_needless-clause-types : goal.returns-else-is_needless-clause-types
returns-else-is_needless-clause-types g c =
    let slot = c.in-Some.slot.now in
    let there = subst (λ o. IsSome o) c.in-Some.ensures.value refl in
    let next : Slot = record { cell = c.former_cell.result; unsettled = slot.unsettled - 1 } in
    types_written (cells_in (base_of c.args.base.now) c.args.slots.now.entries) (cells_in (base_of c.args.base.now) (c.get_mut.follows.lender next).entries) c.args.lock next.cell
    (cells_written c.args.slots.now (c.get_mut.follows.lender next) c.args.lock (Some next) ((c.get_mut.follows.holds next).3 there).0 (base_of c.args.base.now)) c.note_types.ensures
