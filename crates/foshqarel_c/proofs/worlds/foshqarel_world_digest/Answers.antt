use Rattle.std.proofs.Common.{inl, inr, subst, sym}
use Rattle.embed.specs.Given.{IsDigestOf}
use Rattle.foshqarel_c.proofs.Failing.{fails}
use Rattle.foshqarel_c.proofs.worlds.foshqarel_world_digest.Goals as goal

pub returns-in-Ok : goal.returns-in-Ok
returns-in-Ok c = inl (record { bytes = c.as_slice.result.now; is = subst (IsDigestOf c.args.world.now) (sym c.as_slice.ensures) c.in-Ok.ensures.digest; put = c.give.ensures.put; told_is = c.give.ensures.told })

pub returns-in-Err : goal.returns-in-Err
returns-in-Err c = inr (fails c.in-Err.failure _ _ _ _ _ c.in-Err.ensures.refused c.fail.ensures)
