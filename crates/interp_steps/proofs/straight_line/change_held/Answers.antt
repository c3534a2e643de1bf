use Rattle.std.proofs.Common.{◌≡◌, refl, sym, ap, subst, ◌∙◌, arith, true, [], ◌∷◌, ◌++◌, List, length-append, append_assoc}
use Rattle.wtypes.specs.declared.Value.{Value}
use Rattle.wtypes.specs.declared.PlainInstr.{PlainInstr}
use Rattle.spec_modules.specs.Syntax.{Plain}
use Rattle.laws_reduction.specs.Forms.{runs_on, IsReadyFor}
use Rattle.laws_reduction.specs.Plain.{Done}
use Rattle.laws_reduction.specs.Topmost.{last_one}
use Rattle.interp_state.specs.Callee.{contract_of, base_of}
use Rattle.interp_state.specs.Views.{items_of}
use Rattle.interp_steps.specs.StraightLine.{holding}
use Rattle.interp_steps.proofs.Controlling.{popped}
use Rattle.interp_steps.proofs.Reaching.{load_place, load_charged}
use Rattle.interp_steps.proofs.Holding.{may_join, may_change, place_there, done}
use Rattle.interp_steps.proofs.straight_line.change_held.Goals as goal

pub unary_result-requires : goal.unary_result-requires
unary_result-requires g c =
    let p = c.args.parts.now in
    may_change c.args.lent.now p (c.args.held ∷ []) p.code.now c.requires.safe c.requires.ordered c.args.op.now c.args.rest.now c.requires.here p.stack.items c.args.held refl

pub returns-in-Some-clause-changed : goal.returns-in-Some-clause-changed
returns-in-Some-clause-changed g c =
    let p = c.args.parts.now in
    done c.args.lent.now p (c.args.held ∷ []) p.code.now c.requires.safe c.requires.ordered c.args.op.now c.args.rest.now c.requires.here c.in-Some.ensures.changed.runs _ _ (c.in-Some.ensures.changed.does p.stack.items p.locals.items)

pub top-below-requires : goal.top-below-requires
top-below-requires g c =
    let p = c.args.parts.now in
    let two = c.takes_two.ensures.two c.if-takes_two.true in
    let there = place_there c.args.lent.now p (c.args.held ∷ []) p.code.now c.requires.safe c.requires.ordered c.args.op.now c.args.rest.now c.requires.here two.runs in
    omega (arith, there.0, two.count, length-append p.stack.items (c.args.held ∷ []), p.stack.ok.0)

pub binary_result-requires : goal.binary_result-requires
binary_result-requires g c =
    let p = c.args.parts.now in
    may_join c.args.lent.now p (c.args.held ∷ []) p.code.now c.requires.safe c.requires.ordered c.args.op.now c.args.rest.now c.requires.here _ c.top-below.result c.args.held
    (ap (λ (xs : List Value). xs ++ c.args.held ∷ []) c.top-below.ensures ∙ append_assoc _ (c.top-below.result ∷ []) (c.args.held ∷ []))

pub returns-then-takes_two-clause-changed : goal.returns-then-takes_two-clause-changed
returns-then-takes_two-clause-changed g c =
    let p = c.args.parts.now in
    let under = c.pop_top-below.new.stack.items in
    let same : c.top-below.result ≡ c.pop_top-below.result = last_one _ under _ _ (sym c.top-below.ensures ∙ c.pop_top-below.ensures.items) in
    let is : p.stack.items ++ c.args.held ∷ [] ≡ under ++ c.top-below.result ∷ c.args.held ∷ [] =
    ap (λ (xs : List Value). xs ++ c.args.held ∷ []) (c.pop_top-below.ensures.items ∙ ap (λ (x : Value). under ++ x ∷ []) (sym same)) ∙ append_assoc under (c.top-below.result ∷ []) (c.args.held ∷ []) in
    done c.args.lent.now p (c.args.held ∷ []) p.code.now c.requires.safe c.requires.ordered c.args.op.now c.args.rest.now c.requires.here c.in_ok-value.ensures.joined.runs _ _
    (subst (λ (s : List Value). Done c.args.op.now s p.locals.items (under ++ c.in_ok-value.value ∷ []) p.locals.items) (sym is) (c.in_ok-value.ensures.joined.does under p.locals.items))

pub write_local-requires : goal.write_local-requires
write_local-requires g c =
    let p = c.args.parts.now in
    let on : runs_on c.args.op.now ≡ true = ap runs_on c.in-LocalTee.is in
    let there = place_there c.args.lent.now p (c.args.held ∷ []) p.code.now c.requires.safe c.requires.ordered c.args.op.now c.args.rest.now c.requires.here on in
    (subst (λ (o : PlainInstr). IsReadyFor o (p.stack.items ++ c.args.held ∷ []) p.locals.items) c.in-LocalTee.is there.1).there

pub returns-in-LocalTee-clause-changed : goal.returns-in-LocalTee-clause-changed
returns-in-LocalTee-clause-changed g c =
    let p = c.args.parts.now in
    let locals = c.write_local.new.locals.items in
    done c.args.lent.now p (c.args.held ∷ []) p.code.now c.requires.safe c.requires.ordered c.args.op.now c.args.rest.now c.requires.here (ap runs_on c.in-LocalTee.is) _ _
    (subst (λ (o : PlainInstr). Done o (p.stack.items ++ c.args.held ∷ []) p.locals.items (p.stack.items ++ c.args.held ∷ []) locals) (sym c.in-LocalTee.is) (c.write_local.ensures.tee p.stack.items))

pub load_value-requires : goal.load_value-requires
load_value-requires g c =
    let k = contract_of c.args.lent.now in
    let p = c.args.parts.now in
    let v = holding (base_of c.args.lent.now) p c.args.held in
    let n = c.requires.here.ordinal in
    let is = items_of c.args.rest.now in
    let here = c.requires.here.here ∙ ap (λ (o : PlainInstr). record { ordinal = n; instr = Plain o } ∷ is) c.in-Load.is in
    (popped v c.requires.ordered (load_place k v c.requires.safe c.requires.ordered n is c.in-Load.operator c.in-Load.field-1 c.in-Load.offset here) p.stack.items c.args.held refl).0

pub returns-in-Ok-clause-changed : goal.returns-in-Ok-clause-changed
returns-in-Ok-clause-changed g c =
    let k = contract_of c.args.lent.now in
    let p = c.args.parts.now in
    let v = holding (base_of c.args.lent.now) p c.args.held in
    let n = c.requires.here.ordinal in
    let is = items_of c.args.rest.now in
    let here = c.requires.here.here ∙ ap (λ (o : PlainInstr). record { ordinal = n; instr = Plain o } ∷ is) c.in-Load.is in
    let e = c.in-Ok.ensures in
    load_charged k v c.requires.safe c.requires.ordered n is c.in-Load.operator c.in-Load.field-1 c.in-Load.offset here (p.stack.items ++ c.in-Ok.value ∷ [])
    (record { kept = p.stack.items; address = c.args.held; number = e.number; before = refl; there = e.there; after = ap (λ (x : Value). p.stack.items ++ x ∷ []) e.is })
    _ refl refl refl refl refl
