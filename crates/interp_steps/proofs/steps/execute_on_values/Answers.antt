use Rattle.std.proofs.Common.{refl}
use Rattle.interp_state.specs.declared.parts.Parts.{Parts}
use Rattle.interp_state.specs.Plain.{Did}
use Rattle.interp_steps.specs.Steps.{LeadsTo}
use Rattle.interp_state.specs.Steps.{IsCounted}
use Rattle.interp_steps.proofs.Acting.{ready_plain, led_first, if_ok, wanted, counted_rest}
use Rattle.interp_steps.proofs.steps.execute_on_values.Goals as goal

pub execute_plain-after-requires : goal.execute_plain-after-requires
execute_plain-after-requires g c =
    let r = c.requires.ready in
    (ready_plain c.args.lent.now c.args.parts.now c.args.parts.now c.args.rest.now r c.requires.here.ordinal c.args.op.now c.requires.here.here c.requires.on_values).1

pub returns : goal.returns
returns g c =
    let p = c.args.parts.now in
    let r = c.requires.ready in
    let q : Parts g.row.A.Denot = record { code = c.args.rest; entries = p.entries; depth = p.depth; stack = c.execute_plain-after.new.stack; locals = c.execute_plain-after.new.locals; instance = p.instance; spare = p.spare } in
    record {
      led = if_ok c.execute_plain-after.result (λ a. Did c.args.op.now p.stack.items p.locals.items a q.stack.items q.locals.items) (λ a. LeadsTo c.args.lent.now p a q)
          (led_first c.args.lent.now p q c.args.rest.now r c.requires.here.ordinal c.args.op.now c.requires.here.here c.requires.on_values refl refl refl) c.execute_plain-after.ensures.did;
      counted = if_ok c.execute_plain-after.result (λ a. Did c.args.op.now p.stack.items p.locals.items a q.stack.items q.locals.items) (λ a. IsCounted q)
          (λ a d. counted_rest p q refl refl c.requires.here.rest_numbered c.requires.counted) c.execute_plain-after.ensures.did;
      max = refl;
      takes = wanted c.args.op.now p.stack.items p.locals.items q.stack.items q.locals.items c.execute_plain-after.result c.execute_plain-after.ensures.did c.execute_plain-after.ensures.takes;
    }
