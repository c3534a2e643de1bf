use Rattle.std.proofs.Common.{◌∙◌, List, inl, inr, refl, ap, drop, length}
use Rattle.foshqarel_c.specs.declared.changes.ChangeRecord.{ChangeRecord}
use Rattle.foshqarel_c.specs.Buffers.{laid}
use Rattle.foshqarel_c.proofs.Failing.{fails}
use Rattle.foshqarel_c.proofs.changes.foshqarel_call.Goals as goal

pub returns-in-Ok : goal.returns-in-Ok
returns-in-Ok c =
    let same = c.deref.ensures.value in
    inl (record {
      items = c.in-Ok.records.items;
      is = c.in-Ok.ensures.ran;
      laid_are = c.give_items.ensures.laid ∙ ap (λ (xs : List ChangeRecord). laid (drop 0 xs) c.args.changes.now) same;
      counted = record { count = length c.deref.result.now; is = ap (λ (xs : List ChangeRecord). length xs) same; kept = refl; status_is = c.give_items.ensures.status; told_is = c.give_items.ensures.told };
    })

pub returns-in-Err : goal.returns-in-Err
returns-in-Err c = inr (refl, (refl, fails c.in-Err.failure _ _ _ _ _ c.in-Err.ensures.refused c.fail.ensures))
