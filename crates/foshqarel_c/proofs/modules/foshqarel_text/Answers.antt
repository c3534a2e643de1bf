use Rattle.std.proofs.Common.{false, inl, inr, subst, sym}
use Rattle.wblock_modules.specs.Texts.{IsTextOf}
use Rattle.foshqarel_c.proofs.Failing.{fails}
use Rattle.foshqarel_c.proofs.modules.foshqarel_text.Goals as goal

pub returns-in-Ok : goal.returns-in-Ok
returns-in-Ok c = inl (record { bytes = c.as_bytes.result.now; is = subst (IsTextOf false c.args.code.now) (sym c.as_bytes.ensures.value) c.in-Ok.ensures.text; put = c.give.ensures.put; told_is = c.give.ensures.told })

pub returns-in-Err : goal.returns-in-Err
returns-in-Err c = inr (fails c.in-Err.failure _ _ _ _ _ c.in-Err.ensures.refused c.fail.ensures)
