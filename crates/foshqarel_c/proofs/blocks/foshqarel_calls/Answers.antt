use Rattle.std.proofs.Common.{◌∙◌, inl, inr, refl, arith}
use Rattle.foshqarel_c.proofs.Failing.{fails}
use Rattle.foshqarel_c.proofs.blocks.foshqarel_calls.Goals as goal

pub returns-in-Ok : goal.returns-in-Ok
returns-in-Ok c =
    let list = c.in-Ok.list in
    inl (record {
      count = c.len.result;
      is = record { list = list.items; spelled = c.in-Ok.ensures.spelled; few = omega (arith, c.in-Ok.ensures.few, list.ok.0); is = c.len.ensures ∙ list.ok.0 };
      kept = refl;
      status_is = c.count.ensures.status;
      told_is = c.count.ensures.told;
    })

pub returns-in-Err : goal.returns-in-Err
returns-in-Err c = inr (fails c.in-Err.failure _ _ _ _ _ c.in-Err.ensures.refused c.fail.ensures)
