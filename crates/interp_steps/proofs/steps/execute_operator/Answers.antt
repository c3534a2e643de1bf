use Rattle.std.proofs.Common.{◌≢◌, refl, sym, ap, ◌∙◌, arith, ◌∷◌}
use Rattle.wtypes.specs.declared.PlainInstr.{PlainInstr}
use Rattle.spec_modules.specs.Syntax.{Plain}
use Rattle.spec_modules.specs.Operators.{bits_of}
use Rattle.interp_state.specs.Callee.{contract_of}
use Rattle.interp_state.specs.Views.{view, items_of}
use Rattle.interp_steps.proofs.Controlling.{popped, br_target, br_charged, out_target, out_charged, br_if_choice, br_if_one, br_if_stays, free_target, free_charged}
use Rattle.interp_steps.proofs.steps.execute_operator.Goals as goal

pub branch-parts-requires-clause-target : goal.branch-parts-requires-clause-target
branch-parts-requires-clause-target g c =
    let r = c.requires.ready in
    let n = c.requires.here.ordinal in
    let is = items_of c.args.rest.now in
    let here = c.requires.here.here ∙ ap (λ (o : PlainInstr). record { ordinal = n; instr = Plain o } ∷ is) c.in-Br.is in
    br_target (contract_of c.args.lent.now) (view r.base c.args.parts.now) r.safe (r.ordered r.base) n is c.in-Br.label here

pub returns-in-Br-clause-led : goal.returns-in-Br-clause-led
returns-in-Br-clause-led g c b safe suits =
    let k = contract_of c.args.lent.now in
    let n = c.requires.here.ordinal in
    let is = items_of c.args.rest.now in
    let here = c.requires.here.here ∙ ap (λ (o : PlainInstr). record { ordinal = n; instr = Plain o } ∷ is) c.in-Br.is in
    br_charged k (view b c.args.parts.now) safe (c.requires.ready.ordered b) n is c.in-Br.label here _ (c.branch-parts.ensures.jumps b)

pub leave_call-requires-clause-target : goal.leave_call-requires-clause-target
leave_call-requires-clause-target g c =
    let r = c.requires.ready in
    let n = c.requires.here.ordinal in
    let is = items_of c.args.rest.now in
    let here = c.requires.here.here ∙ ap (λ (o : PlainInstr). record { ordinal = n; instr = Plain o } ∷ is) c.in-Return.is in
    out_target (contract_of c.args.lent.now) (view r.base c.args.parts.now) r.safe (r.ordered r.base) n is here

pub returns-in-Return-clause-led : goal.returns-in-Return-clause-led
returns-in-Return-clause-led g c b safe suits =
    let k = contract_of c.args.lent.now in
    let n = c.requires.here.ordinal in
    let is = items_of c.args.rest.now in
    let here = c.requires.here.here ∙ ap (λ (o : PlainInstr). record { ordinal = n; instr = Plain o } ∷ is) c.in-Return.is in
    out_charged k (view b c.args.parts.now) safe (c.requires.ready.ordered b) n is here _ (c.leave_call.ensures.jumps b)

pub pop_top-choice-requires : goal.pop_top-choice-requires
pop_top-choice-requires g c =
    let r = c.requires.ready in
    let n = c.requires.here.ordinal in
    let is = items_of c.args.rest.now in
    let here = c.requires.here.here ∙ ap (λ (o : PlainInstr). record { ordinal = n; instr = Plain o } ∷ is) c.in-BrIf.is in
    let top = br_if_choice (contract_of c.args.lent.now) (view r.base c.args.parts.now) r.safe (r.ordered r.base) n is c.in-BrIf.label here in
    omega (arith, top.0, c.args.parts.now.stack.ok.0)

pub branch-parts-requires-else-bits-eq0-clause-target : goal.branch-parts-requires-else-bits-eq0-clause-target
branch-parts-requires-else-bits-eq0-clause-target g c =
    let r = c.requires.ready in
    let v = view r.base c.args.parts.now in
    let n = c.requires.here.ordinal in
    let is = items_of c.args.rest.now in
    let here = c.requires.here.here ∙ ap (λ (o : PlainInstr). record { ordinal = n; instr = Plain o } ∷ is) c.in-BrIf.is in
    let top = br_if_choice (contract_of c.args.lent.now) v r.safe (r.ordered r.base) n is c.in-BrIf.label here in
    let kept = c.pop_top-choice.new.stack.items in
    let a = c.pop_top-choice.result in
    let fits = popped v (r.ordered r.base) top kept a c.pop_top-choice.ensures.items in
    let not_zero : bits_of a ≢ 0 = λ e. c.if-bits-eq0.false (c.bits.ensures ∙ e) in
    free_target (contract_of c.args.lent.now) v r.safe (r.ordered r.base) n is kept fits.1 c.in-BrIf.label
    (br_if_one (contract_of c.args.lent.now) v r.safe (r.ordered r.base) n is c.in-BrIf.label here kept a c.pop_top-choice.ensures.items fits.0 fits.1 not_zero)

pub returns-else-bits-eq0-clause-led : goal.returns-else-bits-eq0-clause-led
returns-else-bits-eq0-clause-led g c b safe suits =
    let k = contract_of c.args.lent.now in
    let o = c.requires.ready.ordered b in
    let v = view b c.args.parts.now in
    let n = c.requires.here.ordinal in
    let is = items_of c.args.rest.now in
    let here = c.requires.here.here ∙ ap (λ (o : PlainInstr). record { ordinal = n; instr = Plain o } ∷ is) c.in-BrIf.is in
    let top = br_if_choice k v safe o n is c.in-BrIf.label here in
    let kept = c.pop_top-choice.new.stack.items in
    let a = c.pop_top-choice.result in
    let fits = popped v o top kept a c.pop_top-choice.ensures.items in
    let not_zero : bits_of a ≢ 0 = λ e. c.if-bits-eq0.false (c.bits.ensures ∙ e) in
    let j = c.branch-parts-else-bits-eq0.ensures.jumps b in
    free_charged k v safe o n is kept fits.1 c.in-BrIf.label
    (br_if_one k v safe o n is c.in-BrIf.label here kept a c.pop_top-choice.ensures.items fits.0 fits.1 not_zero)
    _ (record { entry = j.entry; there = j.there; base = j.base; stack = j.stack; locals = j.locals; code = j.code })

pub returns-then-bits-eq0-clause-led : goal.returns-then-bits-eq0-clause-led
returns-then-bits-eq0-clause-led g c b safe suits =
    let k = contract_of c.args.lent.now in
    let o = c.requires.ready.ordered b in
    let v = view b c.args.parts.now in
    let n = c.requires.here.ordinal in
    let is = items_of c.args.rest.now in
    let here = c.requires.here.here ∙ ap (λ (o : PlainInstr). record { ordinal = n; instr = Plain o } ∷ is) c.in-BrIf.is in
    let top = br_if_choice k v safe o n is c.in-BrIf.label here in
    let kept = c.pop_top-choice.new.stack.items in
    let a = c.pop_top-choice.result in
    let fits = popped v o top kept a c.pop_top-choice.ensures.items in
    br_if_stays k v safe o n is c.in-BrIf.label here kept a c.pop_top-choice.ensures.items fits.0 fits.1 (sym c.bits.ensures ∙ c.if-bits-eq0.true) _ refl refl refl refl refl
