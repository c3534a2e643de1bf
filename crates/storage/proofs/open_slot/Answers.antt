use Rattle.std.proofs.Common.{◌≡◌, ◌+◌, ◌<◌, ◌^◌, length, Some, rules, ◌∙◌, arith}
use Rattle.std.specs.BTreeMap.Entry.{map_with_value}
use Rattle.std.specs.FinMap.{empty}
use Rattle.spec_ledger.specs.Cells.{cell_after}
use Rattle.storage.specs.declared.Slot.{Slot}
use Rattle.storage.specs.Slots.{base_of, cells_in, counts_in}
use Rattle.storage.proofs.Slots.{there_from, one_more, slot_cell, cells_changed, counts_changed, cells_kept, counts_kept, cells_written, types_written, tops_higher, tops_written}
use Rattle.storage.proofs.open_slot.Goals as goal

pub returns-in_default-clause-cells_at_err : goal.returns-in_default-clause-cells_at_err
returns-in_default-clause-cells_at_err g c =
    let kept = cells_kept (base_of c.args.base.now) c.args.slots.now c.args.lock _ c.or_insert_with-slot.result.now (there_from _ _ _ c.or_insert_with-slot.ensures.value (λ made post. search rules)) c.in_ok-slots.ensures.value (map_with_value c.in_ok-slots.field-0 c.or_insert_with-slot.result.now) (c.in_ok-slots.ensures.update.0 c.or_insert_with-slot.result.now).0 in
    search (rules, kept)

pub returns-in_default-clause-counts_at_err : goal.returns-in_default-clause-counts_at_err
returns-in_default-clause-counts_at_err g c =
    let kept = counts_kept (base_of c.args.base.now) c.args.slots.now c.args.lock _ c.or_insert_with-slot.result.now (there_from _ _ _ c.or_insert_with-slot.ensures.value (λ made post. search rules)) c.in_ok-slots.ensures.value (map_with_value c.in_ok-slots.field-0 c.or_insert_with-slot.result.now) (c.in_ok-slots.ensures.update.0 c.or_insert_with-slot.result.now).0 c.args.floor in
    search (rules, kept)

pub returns-in_default-clause-below_at_err : goal.returns-in_default-clause-below_at_err
returns-in_default-clause-below_at_err g c =
    let kept : counts_in c.args.top (map_with_value c.in_ok-slots.field-0 c.or_insert_with-slot.result.now).entries ≡ empty =
    counts_kept (base_of c.args.base.now) c.args.slots.now c.args.lock _ c.or_insert_with-slot.result.now (there_from _ _ _ c.or_insert_with-slot.ensures.value (λ made post. search rules)) c.in_ok-slots.ensures.value (map_with_value c.in_ok-slots.field-0 c.or_insert_with-slot.result.now) (c.in_ok-slots.ensures.update.0 c.or_insert_with-slot.result.now).0 c.args.top ∙ c.requires in
    search (rules, kept)

pub returns-clause-before : goal.returns-clause-before
returns-clause-before g c = slot_cell (base_of c.args.base.now) c.args.slots.now c.args.lock _ c.or_insert_with-slot.result.now (there_from _ _ _ c.or_insert_with-slot.ensures.value (λ made post. search rules)) c.in_ok-slots.ensures.value

pub returns-clause-cells : goal.returns-clause-cells
returns-clause-cells g c =
    let next : Slot = record { cell = c.next_cell-next.result; unsettled = c.in-Some.number } in
    let changed = cells_changed (base_of c.args.base.now) c.args.slots.now c.args.lock _ c.or_insert_with-slot.result.now (there_from _ _ _ c.or_insert_with-slot.ensures.value (λ made post. search rules)) c.in_ok-slots.ensures.value (map_with_value c.in_ok-slots.field-0 next) next (c.in_ok-slots.ensures.update.0 next).0 (cell_after c.args.op) c.next_cell-next.ensures in
    search (rules, changed)

pub returns-clause-counts : goal.returns-clause-counts
returns-clause-counts g c =
    let next : Slot = record { cell = c.next_cell-next.result; unsettled = c.in-Some.number } in
    let changed = counts_changed (base_of c.args.base.now) c.args.slots.now c.args.lock _ c.or_insert_with-slot.result.now (there_from _ _ _ c.or_insert_with-slot.ensures.value (λ made post. search rules)) c.in_ok-slots.ensures.value (map_with_value c.in_ok-slots.field-0 next) next (c.in_ok-slots.ensures.update.0 next).0 c.args.floor (λ n. n + 1) c.in-Some.ensures in
    search (rules, changed)

pub returns-clause-below : goal.returns-clause-below
returns-clause-below g c =
    let next : Slot = record { cell = c.next_cell-next.result; unsettled = c.in-Some.number } in
    let made : counts_in c.higher.result (map_with_value c.in_ok-slots.field-0 next).entries ≡ empty =
    tops_written c.args.slots.now (map_with_value c.in_ok-slots.field-0 next) c.args.lock next (c.in_ok-slots.ensures.update.0 next).0 c.higher.result (omega (arith, c.higher.ensures))
    (tops_higher c.args.slots.now.entries c.args.top c.higher.result (omega (arith, c.higher.ensures)) c.requires) in
    search (rules, made)

pub returns-clause-types : goal.returns-clause-types
returns-clause-types g c =
    let next : Slot = record { cell = c.next_cell-next.result; unsettled = c.in-Some.number } in
    let written = cells_written c.args.slots.now (map_with_value c.in_ok-slots.field-0 next) c.args.lock (Some next) (c.in_ok-slots.ensures.update.0 next).0 (base_of c.args.base.now) in
    types_written (cells_in (base_of c.args.base.now) c.args.slots.now.entries) _ c.args.lock next.cell (search (rules, written)) c.note_types.ensures

pub returns-in_default-clause-few : goal.returns-in_default-clause-few
returns-in_default-clause-few g c = λ few.
    let made : length c.args.base.now + length (map_with_value c.in_ok-slots.field-0 c.or_insert_with-slot.result.now).entries < 2 ^ 63 =
    one_more _ _ _ _ (c.in_ok-slots.ensures.len c.or_insert_with-slot.result.now) (c.has_room.ensures c.if-not-has_room.false) in
    search (rules, made)

pub returns-clause-few : goal.returns-clause-few
returns-clause-few g c = λ few.
    let next : Slot = record { cell = c.next_cell-next.result; unsettled = c.in-Some.number } in
    let made : length c.args.base.now + length (map_with_value c.in_ok-slots.field-0 next).entries < 2 ^ 63 =
    one_more _ _ _ _ (c.in_ok-slots.ensures.len next) (c.has_room.ensures c.if-not-has_room.false) in
    search (rules, made)
