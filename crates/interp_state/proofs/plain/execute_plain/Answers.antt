use Rattle.std.proofs.Common.{refl, subst}
use Rattle.std.proofs.lemmas.Option.{slice_get_read}
use Rattle.wtypes.specs.declared.PlainInstr.{PlainInstr}
use Rattle.laws_reduction.specs.Forms.{IsReadyFor}
use Rattle.laws_reduction.specs.Plain.{at_once, by_two}
use Rattle.laws_reduction.specs.Finding.{read_at}
use Rattle.interp_state.proofs.Doing.{did_nop, did_const, did_local_get, did_local_set, did_drop, fell_unreachable}
use Rattle.interp_state.proofs.plain.execute_plain.Goals as goal

pub returns-in-Unreachable-clause-did : goal.returns-in-Unreachable-clause-did
returns-in-Unreachable-clause-did g c = fell_unreachable _ _ _ c.in-Unreachable.is

pub returns-in-Nop-clause-did : goal.returns-in-Nop-clause-did
returns-in-Nop-clause-did g c = at_once (did_nop _ _ _ c.in-Nop.is)

pub returns-in_ok-push-in-Const-clause-did : goal.returns-in_ok-push-in-Const-clause-did
returns-in_ok-push-in-Const-clause-did g c = at_once (did_const _ c.in-Const.value _ _ _ c.in-Const.is c.in_ok-push-in-Const.ensures.items)

pub returns-in_ok-push-in-LocalGet-clause-did : goal.returns-in_ok-push-in-LocalGet-clause-did
returns-in_ok-push-in-LocalGet-clause-did g c =
    let lt = subst (λ (o : PlainInstr). IsReadyFor o c.args.stack.now.items c.args.locals.now.items) c.in-LocalGet.is c.requires in
    at_once (did_local_get _ c.in-LocalGet.x c.index-value.result.now _ _ _ c.in-LocalGet.is (slice_get_read c.args.locals.now.items _ c.in-LocalGet.x c.index-value.result.now refl lt c.index-value.ensures) c.in_ok-push-in-LocalGet.ensures.items)

pub returns-in-LocalSet-clause-did : goal.returns-in-LocalSet-clause-did
returns-in-LocalSet-clause-did g c =
    let r = subst (λ (o : PlainInstr). IsReadyFor o c.args.stack.now.items c.args.locals.now.items) c.in-LocalSet.is c.requires in
    at_once (did_local_set _ c.in-LocalSet.x c.pop_top-value.result _ _ _ _ _ c.in-LocalSet.is c.pop_top-value.ensures.items (read_at c.args.locals.now.items c.in-LocalSet.x c.pop_top-value.result r.there) refl)

pub returns-in-LocalTee-clause-did : goal.returns-in-LocalTee-clause-did
returns-in-LocalTee-clause-did g c =
    let r = subst (λ (o : PlainInstr). IsReadyFor o c.args.stack.now.items c.args.locals.now.items) c.in-LocalTee.is c.requires in
    by_two (record {
      local = c.in-LocalTee.x;
      kept = _;
      value = c.top-value.result;
      old = _;
      tees = c.in-LocalTee.is;
      before = c.top-value.ensures;
      there = read_at c.args.locals.now.items c.in-LocalTee.x c.top-value.result r.there;
      same = refl;
      set = refl;
    })

pub returns-in-Drop-clause-did : goal.returns-in-Drop-clause-did
returns-in-Drop-clause-did g c = at_once (did_drop _ c.pop_top-dropped.result _ _ _ c.in-Drop.is c.pop_top-dropped.ensures.items)
