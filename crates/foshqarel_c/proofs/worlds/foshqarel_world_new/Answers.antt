use Rattle.std.proofs.Common.{inl, inr, refl, subst, sym}
use Rattle.embed.specs.Given.{IsNothing}
use Rattle.foshqarel_c.proofs.worlds.foshqarel_world_new.Goals as goal

pub returns-in-Ok : goal.returns-in-Ok
returns-in-Ok c = inl (record { bytes = c.deref.result.now; is = subst (IsNothing) (sym c.deref.ensures.value) c.in-Ok.ensures; put = c.give.ensures.put; told_is = c.give.ensures.told })

pub returns-in-Err : goal.returns-in-Err
returns-in-Err c = inr (record { kept = refl; status_is = c.lack.ensures.status; told_is = c.lack.ensures.told })
