use Rattle.std.proofs.Common.{inl, inr, subst, sym}
use Rattle.embed.specs.Given.{IsExtension}
use Rattle.foshqarel_c.proofs.Failing.{fails}
use Rattle.foshqarel_c.proofs.worlds.foshqarel_world_extend.Goals as goal

pub returns-in-Ok : goal.returns-in-Ok
returns-in-Ok c = inl (record { bytes = c.deref.result.now; is = subst (IsExtension c.args.world.now c.args.code.now) (sym c.deref.ensures.value) c.in-Ok.ensures.extended; put = c.give.ensures.put; told_is = c.give.ensures.told })

pub returns-in-Err : goal.returns-in-Err
returns-in-Err c = inr (fails c.in-Err.failure _ _ _ _ _ c.in-Err.ensures.refused c.fail.ensures)
