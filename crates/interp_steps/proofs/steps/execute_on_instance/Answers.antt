use Rattle.std.proofs.Common.{◌<◌, List, length, slice_get, arith, refl, sym, ap, ◌∙◌, subst, ◌∷◌, ◌++◌, []}
use Rattle.wtypes.specs.declared.PlainInstr.{PlainInstr}
use Rattle.wtypes.specs.declared.Value.{Value}
use Rattle.spec_modules.specs.Syntax.{Plain}
use Rattle.interp_state.specs.declared.parts.Parts.{Parts}
use Rattle.interp_state.specs.Memories.{DidStore}
use Rattle.interp_state.specs.Callee.{contract_of}
use Rattle.interp_steps.specs.Steps.{LeadsTo}
use Rattle.interp_state.specs.Views.{view, items_of}
use Rattle.interp_steps.proofs.Acting.{if_ok}
use Rattle.interp_steps.proofs.Controlling.{global_there, global_got, set_there, global_was_set}
use Rattle.laws_reduction.specs.Finding.{read_at}
use Rattle.interp_steps.proofs.Reaching.{load_place, load_led, store_place, store_led, size_charged, grow_place, grow_charged}
use Rattle.interp_steps.proofs.steps.execute_on_instance.Goals as goal

pub bounds-globals-x : goal.bounds-globals-x
bounds-globals-x g c =
    let p = c.args.parts.now in
    let r = c.requires.ready in
    let n = c.requires.here.ordinal in
    let is = items_of c.args.rest.now in
    let here = c.requires.here.here ∙ ap (λ (o : PlainInstr). record { ordinal = n; instr = Plain o } ∷ is) c.in-GlobalGet.is in
    subst (λ (vs : List Value). c.in-GlobalGet.x < length vs) (sym c.as_slice-globals.ensures) (global_there (contract_of c.args.lent.now) (view r.base p) r.safe (r.ordered r.base) n is c.in-GlobalGet.x here)

pub returns-in_ok-push-in-GlobalGet-clause-led : goal.returns-in_ok-push-in-GlobalGet-clause-led
returns-in_ok-push-in-GlobalGet-clause-led g c b safe suits =
    let k = contract_of c.args.lent.now in
    let p = c.args.parts.now in
    let r = c.requires.ready in
    let n = c.requires.here.ordinal in
    let is = items_of c.args.rest.now in
    let here = c.requires.here.here ∙ ap (λ (o : PlainInstr). record { ordinal = n; instr = Plain o } ∷ is) c.in-GlobalGet.is in
    let x = c.in-GlobalGet.x in
    let vs = c.as_slice-globals.result.now in
    let lt : x < length vs = subst (λ (ws : List Value). x < length ws) (sym c.as_slice-globals.ensures) (global_there (contract_of c.args.lent.now) (view r.base p) r.safe (r.ordered r.base) n is x here) in
    global_got k (view b p) safe (r.ordered b) n is x here _ (ap (λ (ws : List Value). slice_get ws x) (sym c.as_slice-globals.ensures) ∙ read_at vs x _ lt)
    _ refl refl c.in_ok-push-in-GlobalGet.ensures.items refl refl

pub pop_top-value-requires : goal.pop_top-value-requires
pop_top-value-requires g c =
    let p = c.args.parts.now in
    let r = c.requires.ready in
    let n = c.requires.here.ordinal in
    let is = items_of c.args.rest.now in
    let here = c.requires.here.here ∙ ap (λ (o : PlainInstr). record { ordinal = n; instr = Plain o } ∷ is) c.in-GlobalSet.is in
    omega (arith, (set_there (contract_of c.args.lent.now) (view r.base p) r.safe (r.ordered r.base) n is c.in-GlobalSet.x here).0, p.stack.ok.0)

pub returns-in-GlobalSet-clause-led : goal.returns-in-GlobalSet-clause-led
returns-in-GlobalSet-clause-led g c b safe suits =
    let k = contract_of c.args.lent.now in
    let p = c.args.parts.now in
    let r = c.requires.ready in
    let n = c.requires.here.ordinal in
    let is = items_of c.args.rest.now in
    let here = c.requires.here.here ∙ ap (λ (o : PlainInstr). record { ordinal = n; instr = Plain o } ∷ is) c.in-GlobalSet.is in
    let lt = (set_there (contract_of c.args.lent.now) (view r.base p) r.safe (r.ordered r.base) n is c.in-GlobalSet.x here).1 in
    let v = view b p in
    global_was_set k (view b p) safe (r.ordered b) n is c.in-GlobalSet.x here c.pop_top-value.new.stack.items c.pop_top-value.result _ c.pop_top-value.ensures.items
    (read_at p.instance.globals c.in-GlobalSet.x c.pop_top-value.result lt) _ (ap (λ (vs : List Value). record v.base { globals = vs }) c.set.ensures) refl refl refl refl

pub execute_load-after-requires : goal.execute_load-after-requires
execute_load-after-requires g c =
    let p = c.args.parts.now in
    let r = c.requires.ready in
    let n = c.requires.here.ordinal in
    let is = items_of c.args.rest.now in
    let here = c.requires.here.here ∙ ap (λ (o : PlainInstr). record { ordinal = n; instr = Plain o } ∷ is) c.in-Load.is in
    (load_place (contract_of c.args.lent.now) (view r.base p) r.safe (r.ordered r.base) n is c.in-Load.operator c.in-Load.field-1 c.in-Load.offset here).1

pub returns-in-Load-clause-led : goal.returns-in-Load-clause-led
returns-in-Load-clause-led g c b safe suits =
    let k = contract_of c.args.lent.now in
    let p = c.args.parts.now in
    let r = c.requires.ready in
    let n = c.requires.here.ordinal in
    let is = items_of c.args.rest.now in
    let here = c.requires.here.here ∙ ap (λ (o : PlainInstr). record { ordinal = n; instr = Plain o } ∷ is) c.in-Load.is in
    load_led k (view b p) safe (r.ordered b) n is c.in-Load.operator c.in-Load.field-1 c.in-Load.offset here c.execute_load-after.result c.execute_load-after.new.stack.items c.execute_load-after.ensures
    _ refl refl refl refl refl

pub execute_store-after-requires : goal.execute_store-after-requires
execute_store-after-requires g c =
    let p = c.args.parts.now in
    let r = c.requires.ready in
    let n = c.requires.here.ordinal in
    let is = items_of c.args.rest.now in
    let here = c.requires.here.here ∙ ap (λ (o : PlainInstr). record { ordinal = n; instr = Plain o } ∷ is) c.in-Store.is in
    (store_place (contract_of c.args.lent.now) (view r.base p) r.safe (r.ordered r.base) n is c.in-Store.operator c.in-Store.field-1 c.in-Store.offset here).1

pub returns-in-Store-clause-led : goal.returns-in-Store-clause-led
returns-in-Store-clause-led g c =
    let p = c.args.parts.now in
    let r = c.requires.ready in
    let n = c.requires.here.ordinal in
    let is = items_of c.args.rest.now in
    let here = c.requires.here.here ∙ ap (λ (o : PlainInstr). record { ordinal = n; instr = Plain o } ∷ is) c.in-Store.is in
    let q : Parts g.row.A.Denot = record { code = c.args.rest; entries = p.entries; depth = p.depth; stack = c.execute_store-after.new.stack; locals = p.locals; instance = record { globals = p.instance.globals; memory = c.execute_store-after.new.memory; table = p.instance.table }; spare = p.spare } in
    if_ok c.execute_store-after.result (λ a. DidStore c.in-Store.operator c.in-Store.offset p.instance.memory c.execute_store-after.new.memory p.stack.items a q.stack.items) (λ a. LeadsTo c.args.lent.now p a q)
    (λ a d b safe suits.
    let k = contract_of c.args.lent.now in
    store_led k (view b p) safe (r.ordered b) n is c.in-Store.operator c.in-Store.field-1 c.in-Store.offset here p.instance.memory c.execute_store-after.new.memory refl a q.stack.items d
    (view b q) refl refl refl refl refl)
    c.execute_store-after.ensures.did

pub returns-in_ok-push-in-MemorySize-clause-led : goal.returns-in_ok-push-in-MemorySize-clause-led
returns-in_ok-push-in-MemorySize-clause-led g c b safe suits =
    let k = contract_of c.args.lent.now in
    let p = c.args.parts.now in
    let r = c.requires.ready in
    let n = c.requires.here.ordinal in
    let is = items_of c.args.rest.now in
    let here = c.requires.here.here ∙ ap (λ (o : PlainInstr). record { ordinal = n; instr = Plain o } ∷ is) c.in-MemorySize.is in
    size_charged k (view b p) safe (r.ordered b) n is here
    _ refl refl (c.in_ok-push-in-MemorySize.ensures.items ∙ ap (λ v. p.stack.items ++ v ∷ []) c.memory_size.ensures) refl refl

pub execute_grow-requires : goal.execute_grow-requires
execute_grow-requires g c =
    let p = c.args.parts.now in
    let r = c.requires.ready in
    let n = c.requires.here.ordinal in
    let is = items_of c.args.rest.now in
    let here = c.requires.here.here ∙ ap (λ (o : PlainInstr). record { ordinal = n; instr = Plain o } ∷ is) c.in-MemoryGrow.is in
    (grow_place (contract_of c.args.lent.now) (view r.base p) r.safe (r.ordered r.base) n is here).1

pub returns-in_ok-execute_grow-in-MemoryGrow-clause-led : goal.returns-in_ok-execute_grow-in-MemoryGrow-clause-led
returns-in_ok-execute_grow-in-MemoryGrow-clause-led g c b safe suits =
    let k = contract_of c.args.lent.now in
    let p = c.args.parts.now in
    let r = c.requires.ready in
    let n = c.requires.here.ordinal in
    let is = items_of c.args.rest.now in
    let here = c.requires.here.here ∙ ap (λ (o : PlainInstr). record { ordinal = n; instr = Plain o } ∷ is) c.in-MemoryGrow.is in
    grow_charged k (view b p) safe (r.ordered b) n is here p.instance.memory c.execute_grow.new.memory refl suits c.execute_grow.new.stack.items c.in_ok-execute_grow-in-MemoryGrow.ensures.did
    _ refl refl refl refl refl
