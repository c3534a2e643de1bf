use Rattle.std.proofs.Common.{inl, inr, refl}
use Rattle.foshqarel_c.proofs.Failing.{fails}
use Rattle.foshqarel_c.proofs.modules.foshqarel_check.Goals as goal

pub returns-in-Ok : goal.returns-in-Ok
returns-in-Ok c = inl (record { count = c.in-Ok.functions; is = c.in-Ok.ensures.counted; kept = refl; status_is = c.count.ensures.status; told_is = c.count.ensures.told })

pub returns-in-Err : goal.returns-in-Err
returns-in-Err c = inr (fails c.in-Err.failure _ _ _ _ _ c.in-Err.ensures.refused c.fail.ensures)
