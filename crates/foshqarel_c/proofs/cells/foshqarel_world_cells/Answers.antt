use Rattle.std.proofs.Common.{◌∙◌, List, inl, inr, refl, ap, drop, length}
use Rattle.foshqarel_c.specs.declared.cells.CellRecord.{CellRecord}
use Rattle.foshqarel_c.specs.Buffers.{laid}
use Rattle.foshqarel_c.proofs.Failing.{fails}
use Rattle.foshqarel_c.proofs.cells.foshqarel_world_cells.Goals as goal

pub returns-in-Ok : goal.returns-in-Ok
returns-in-Ok c =
    let same = c.deref.ensures.value in
    inl (record {
      items = c.in-Ok.records.items;
      is = c.in-Ok.ensures.records;
      laid_are = c.give_items.ensures.laid ∙ ap (λ (xs : List CellRecord). laid (drop c.args.from xs) c.args.cells.now) same;
      counted = record { count = length c.deref.result.now; is = ap (λ (xs : List CellRecord). length xs) same; kept = refl; status_is = c.give_items.ensures.status; told_is = c.give_items.ensures.told };
    })

pub returns-in-Err : goal.returns-in-Err
returns-in-Err c = inr (refl, fails c.in-Err.failure _ _ _ _ _ c.in-Err.ensures.refused c.fail.ensures)
