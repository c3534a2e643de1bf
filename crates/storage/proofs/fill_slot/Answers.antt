use Rattle.std.proofs.Common.{◌+◌, ◌-◌, ◌<◌, ◌^◌, length, Some, rules}
use Rattle.std.specs.BTreeMap.Entry.{map_with_value}
use Rattle.spec_ledger.specs.Cells.{counter}
use Rattle.storage.specs.declared.Slot.{Slot}
use Rattle.storage.specs.Slots.{base_of, cells_in, counts_in}
use Rattle.storage.proofs.Slots.{count_of_new, one_more, same_cells, cells_written, counts_written, types_written}
use Rattle.storage.proofs.fill_slot.Goals as goal

pub returns-clause-cells : goal.returns-clause-cells
returns-clause-cells g c =
    let next : Slot = record { cell = c.args.cell; unsettled = c.or_insert-slot.result.now.unsettled } in
    let written = cells_written c.args.slots.now (map_with_value c.in_ok-slots.field-0 next) c.args.lock (Some next) (c.in_ok-slots.ensures.update.0 next).0 (base_of c.args.base.now) in
    search (rules, written)

pub returns-clause-counts : goal.returns-clause-counts
returns-clause-counts g c = λ floor.
    let slot = c.or_insert-slot.result.now in
    let next : Slot = record { cell = c.args.cell; unsettled = slot.unsettled } in
    let written = counts_written c.args.slots.now (map_with_value c.in_ok-slots.field-0 next) c.args.lock (Some next) (c.in_ok-slots.ensures.update.0 next).0 floor in
    let kept = same_cells (counts_in floor c.args.slots.now.entries) (counts_in floor (map_with_value c.in_ok-slots.field-0 next).entries) c.args.lock (counter (slot.unsettled - floor)) written
    (count_of_new c.args.slots.now c.args.lock _ slot c.or_insert-slot.ensures.value c.in_ok-slots.ensures.value floor) in
    search (rules, kept)

pub returns-clause-types : goal.returns-clause-types
returns-clause-types g c =
    let next : Slot = record { cell = c.args.cell; unsettled = c.or_insert-slot.result.now.unsettled } in
    let written = cells_written c.args.slots.now (map_with_value c.in_ok-slots.field-0 next) c.args.lock (Some next) (c.in_ok-slots.ensures.update.0 next).0 (base_of c.args.base.now) in
    types_written (cells_in (base_of c.args.base.now) c.args.slots.now.entries) _ c.args.lock next.cell (search (rules, written)) c.note_types.ensures

pub returns-clause-few : goal.returns-clause-few
returns-clause-few g c = λ few.
    let next : Slot = record { cell = c.args.cell; unsettled = c.or_insert-slot.result.now.unsettled } in
    let made : length c.args.base.now + length (map_with_value c.in_ok-slots.field-0 next).entries < 2 ^ 63 =
    one_more _ _ _ _ (c.in_ok-slots.ensures.len next) (c.has_room.ensures c.if-not-has_room.false) in
    search (rules, made)
