use Rattle.std.proofs.Common.{refl, subst}
use Rattle.wtypes.specs.declared.PlainInstr.{PlainInstr}
use Rattle.laws_reduction.specs.Plain.{at_once}
use Rattle.laws_reduction.specs.Finding.{read_at}
use Rattle.interp_state.specs.TopmostValues.{IsReadyToPush}
use Rattle.interp_state.proofs.Doing.{did_const, did_local_get}
use Rattle.interp_state.proofs.plain_values.pushed_value.Goals as goal

pub returns-in-Const-clause-pushed : goal.returns-in-Const-clause-pushed
returns-in-Const-clause-pushed c = record {
  runs = cc;
  does = λ stack. at_once (did_const c.args.op.now c.in-Const.value stack _ c.args.locals.now c.in-Const.is refl);
}

pub returns-in-LocalGet-clause-pushed : goal.returns-in-LocalGet-clause-pushed
returns-in-LocalGet-clause-pushed c =
    let there = subst (λ (o : PlainInstr). IsReadyToPush o c.args.locals.now) c.in-LocalGet.is c.requires in
    record {
      runs = cc;
      does = λ stack. at_once (did_local_get c.args.op.now c.in-LocalGet.x _ stack _ c.args.locals.now c.in-LocalGet.is (read_at c.args.locals.now c.in-LocalGet.x _ there) refl);
    }
