use Rattle.std.proofs.Common.{◌≡◌, ◌≢◌, refl, sym, ap, subst, ◌∙◌, arith, true, [], ◌∷◌, ◌++◌, List, drop, length-append, append_assoc}
use Rattle.wtypes.specs.declared.Value.{Value}
use Rattle.wtypes.specs.declared.PlainInstr.{PlainInstr}
use Rattle.spec_modules.specs.Syntax.{Plain}
use Rattle.spec_modules.specs.Operators.{type_of, bits_of}
use Rattle.laws_reduction.specs.Forms.{runs_on, IsReadyFor}
use Rattle.laws_reduction.specs.Plain.{Done}
use Rattle.laws_reduction.specs.Topmost.{last_one, last_two}
use Rattle.memory.specs.Linear.{Memory}
use Rattle.interp_state.specs.Callee.{contract_of, base_of}
use Rattle.interp_state.specs.Views.{items_of, opens_of}
use Rattle.interp_steps.specs.StraightLine.{holding}
use Rattle.interp_steps.proofs.Controlling.{popped, br_if_choice, br_if_one, br_if_stays, free_target, free_charged}
use Rattle.interp_steps.proofs.Reaching.{store_place, store_charged}
use Rattle.interp_steps.proofs.Holding.{first_some, items_some, place_there, done}
use Rattle.interp_steps.proofs.Repeating.{each_drop, branched_walks, branched_some}
use Rattle.interp_steps.proofs.Walking.{safe_now, walks_once}
use Rattle.interp_steps.proofs.straight_line.let_go.Goals as goal

pub write_local-requires : goal.write_local-requires
write_local-requires g c =
    let p = c.args.parts.now in
    let v = holding (base_of c.args.lent.now) p c.args.held in
    let some = items_some p.code.now (first_some p.code.now c.args.op.now c.args.rest.now c.requires.here) in
    let safe = safe_now (contract_of c.args.lent.now) v c.args.left c.requires.safe c.requires.some some in
    let on : runs_on c.args.op.now ≡ true = ap runs_on c.in-LocalSet.is in
    let there = place_there c.args.lent.now p (c.args.held ∷ []) p.code.now safe c.requires.ordered c.args.op.now c.args.rest.now c.requires.here on in
    (subst (λ (o : PlainInstr). IsReadyFor o (p.stack.items ++ c.args.held ∷ []) p.locals.items) c.in-LocalSet.is there.1).there

pub returns-in-LocalSet-clause-went : goal.returns-in-LocalSet-clause-went
returns-in-LocalSet-clause-went g c is_so =
    let p = c.args.parts.now in
    let v = holding (base_of c.args.lent.now) p c.args.held in
    let some = items_some p.code.now (first_some p.code.now c.args.op.now c.args.rest.now c.requires.here) in
    let safe = safe_now (contract_of c.args.lent.now) v c.args.left c.requires.safe c.requires.some some in
    let locals = c.write_local.new.locals.items in
    walks_once (contract_of c.args.lent.now) v _ some
    (done c.args.lent.now p (c.args.held ∷ []) p.code.now safe c.requires.ordered c.args.op.now c.args.rest.now c.requires.here (ap runs_on c.in-LocalSet.is) _ _
    (subst (λ (o : PlainInstr). Done o (p.stack.items ++ c.args.held ∷ []) p.locals.items p.stack.items locals) (sym c.in-LocalSet.is) (c.write_local.ensures.set p.stack.items)))

pub go_to-requires-clause-target : goal.go_to-requires-clause-target
go_to-requires-clause-target g c =
    let k = contract_of c.args.lent.now in
    let p = c.args.parts.now in
    let v = holding (base_of c.args.lent.now) p c.args.held in
    let some = items_some p.code.now (first_some p.code.now c.args.op.now c.args.rest.now c.requires.here) in
    let safe = safe_now k v c.args.left c.requires.safe c.requires.some some in
    let n = c.requires.here.ordinal in
    let is = items_of c.args.rest.now in
    let here = c.requires.here.here ∙ ap (λ (o : PlainInstr). record { ordinal = n; instr = Plain o } ∷ is) c.in-BrIf.is in
    let fits = popped v c.requires.ordered (br_if_choice k v safe c.requires.ordered n is c.in-BrIf.label here) p.stack.items c.args.held refl in
    let not_zero : bits_of c.args.held ≢ 0 = λ e. c.if-bits-eq0.false (c.bits.ensures ∙ e) in
    free_target k v safe c.requires.ordered n is p.stack.items fits.1 c.in-BrIf.label
    (br_if_one k v safe c.requires.ordered n is c.in-BrIf.label here p.stack.items c.args.held refl fits.0 fits.1 not_zero)

pub returns-else-bits-eq0-clause-went : goal.returns-else-bits-eq0-clause-went
returns-else-bits-eq0-clause-went g c is_so =
    let k = contract_of c.args.lent.now in
    let b = base_of c.args.lent.now in
    let p = c.args.parts.now in
    let v = holding b p c.args.held in
    let some = items_some p.code.now (first_some p.code.now c.args.op.now c.args.rest.now c.requires.here) in
    let safe = safe_now k v c.args.left c.requires.safe c.requires.some some in
    let n = c.requires.here.ordinal in
    let is = items_of c.args.rest.now in
    let label = c.in-BrIf.label in
    let target = drop label (opens_of p.entries.items) in
    let here = c.requires.here.here ∙ ap (λ (o : PlainInstr). record { ordinal = n; instr = Plain o } ∷ is) c.in-BrIf.is in
    let fits = popped v c.requires.ordered (br_if_choice k v safe c.requires.ordered n is label here) p.stack.items c.args.held refl in
    let not_zero : bits_of c.args.held ≢ 0 = λ e. c.if-bits-eq0.false (c.bits.ensures ∙ e) in
    let one = br_if_one k v safe c.requires.ordered n is label here p.stack.items c.args.held refl fits.0 fits.1 not_zero in
    branched_walks k b p target v some (each_drop label (opens_of p.entries.items) c.requires.ordered.each) (free_target k v safe c.requires.ordered n is p.stack.items fits.1 label one)
    (λ w j. free_charged k v safe c.requires.ordered n is p.stack.items fits.1 label one w (record { entry = j.entry; there = j.there; base = j.base; stack = j.stack; locals = j.locals; code = j.code }))
    c.args.left c.requires.safe c.go_to.result c.go_to.new.parts c.go_to.ensures.branched c.go_to.ensures.within

pub returns-else-bits-eq0-clause-same : goal.returns-else-bits-eq0-clause-same
returns-else-bits-eq0-clause-same g c none_made =
    let p = c.args.parts.now in
    let some = branched_some p c.go_to.new.parts (drop c.in-BrIf.label (opens_of p.entries.items)) c.go_to.result c.go_to.ensures.branched in
    absurd (omega (arith, some, none_made))

pub returns-then-bits-eq0-clause-went : goal.returns-then-bits-eq0-clause-went
returns-then-bits-eq0-clause-went g c is_so =
    let k = contract_of c.args.lent.now in
    let p = c.args.parts.now in
    let v = holding (base_of c.args.lent.now) p c.args.held in
    let some = items_some p.code.now (first_some p.code.now c.args.op.now c.args.rest.now c.requires.here) in
    let safe = safe_now k v c.args.left c.requires.safe c.requires.some some in
    let n = c.requires.here.ordinal in
    let is = items_of c.args.rest.now in
    let here = c.requires.here.here ∙ ap (λ (o : PlainInstr). record { ordinal = n; instr = Plain o } ∷ is) c.in-BrIf.is in
    let fits = popped v c.requires.ordered (br_if_choice k v safe c.requires.ordered n is c.in-BrIf.label here) p.stack.items c.args.held refl in
    walks_once k v _ some (br_if_stays k v safe c.requires.ordered n is c.in-BrIf.label here p.stack.items c.args.held refl fits.0 fits.1 (sym c.bits.ensures ∙ c.if-bits-eq0.true) _ refl refl refl refl refl)

pub top-place-requires : goal.top-place-requires
top-place-requires g c =
    let k = contract_of c.args.lent.now in
    let p = c.args.parts.now in
    let v = holding (base_of c.args.lent.now) p c.args.held in
    let some = items_some p.code.now (first_some p.code.now c.args.op.now c.args.rest.now c.requires.here) in
    let safe = safe_now k v c.args.left c.requires.safe c.requires.some some in
    let n = c.requires.here.ordinal in
    let is = items_of c.args.rest.now in
    let here = c.requires.here.here ∙ ap (λ (o : PlainInstr). record { ordinal = n; instr = Plain o } ∷ is) c.in-Store.is in
    let there = store_place k v safe c.requires.ordered n is c.in-Store.operator c.in-Store.field-1 c.in-Store.offset here in
    omega (arith, there.0, length-append p.stack.items (c.args.held ∷ []), p.stack.ok.0)

pub store_value-requires : goal.store_value-requires
store_value-requires g c =
    let k = contract_of c.args.lent.now in
    let p = c.args.parts.now in
    let v = holding (base_of c.args.lent.now) p c.args.held in
    let some = items_some p.code.now (first_some p.code.now c.args.op.now c.args.rest.now c.requires.here) in
    let safe = safe_now k v c.args.left c.requires.safe c.requires.some some in
    let n = c.requires.here.ordinal in
    let is = items_of c.args.rest.now in
    let here = c.requires.here.here ∙ ap (λ (o : PlainInstr). record { ordinal = n; instr = Plain o } ∷ is) c.in-Store.is in
    let there = store_place k v safe c.requires.ordered n is c.in-Store.operator c.in-Store.field-1 c.in-Store.offset here in
    let two = there.1 in
    let before : p.stack.items ++ c.args.held ∷ [] ≡ _ ++ c.top-place.result ∷ c.args.held ∷ [] =
    ap (λ (xs : List Value). xs ++ c.args.held ∷ []) c.top-place.ensures ∙ append_assoc _ (c.top-place.result ∷ []) (c.args.held ∷ []) in
    let same = last_two _ two.kept c.top-place.result c.args.held two.address two.value (sym before ∙ two.before) in
    ap type_of same.0 ∙ two.address_type

pub returns-in-Ok-clause-went : goal.returns-in-Ok-clause-went
returns-in-Ok-clause-went g c is_so =
    let k = contract_of c.args.lent.now in
    let p = c.args.parts.now in
    let v = holding (base_of c.args.lent.now) p c.args.held in
    let some = items_some p.code.now (first_some p.code.now c.args.op.now c.args.rest.now c.requires.here) in
    let safe = safe_now k v c.args.left c.requires.safe c.requires.some some in
    let n = c.requires.here.ordinal in
    let is = items_of c.args.rest.now in
    let here = c.requires.here.here ∙ ap (λ (o : PlainInstr). record { ordinal = n; instr = Plain o } ∷ is) c.in-Store.is in
    let under = c.pop_top-place.new.stack.items in
    let same : c.top-place.result ≡ c.pop_top-place.result = last_one _ under _ _ (sym c.top-place.ensures ∙ c.pop_top-place.ensures.items) in
    let before : p.stack.items ++ c.args.held ∷ [] ≡ under ++ c.top-place.result ∷ c.args.held ∷ [] =
    ap (λ (xs : List Value). xs ++ c.args.held ∷ []) (c.pop_top-place.ensures.items ∙ ap (λ (x : Value). under ++ x ∷ []) (sym same)) ∙ append_assoc under (c.top-place.result ∷ []) (c.args.held ∷ []) in
    let e = c.in-Ok.ensures in
    walks_once k v _ some (store_charged k v safe c.requires.ordered n is c.in-Store.operator c.in-Store.field-1 c.in-Store.offset here under c.top-place.result c.args.held before e.0
    _ (ap (λ (m : Memory). record v.base { memory = m.bytes }) e.1) refl refl refl refl)
