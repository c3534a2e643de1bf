use Rattle.std.proofs.Common.{subst, Bool, ap, ◌∙◌}
use Rattle.wtypes.specs.declared.TrapCode.TheVariants.{CallDepth}
use Rattle.interp_state.specs.Calls.{Enters}
use Rattle.interp_state.specs.Callee.{base_of}
use Rattle.interp_state.specs.Views.{view}
use Rattle.interp_state.specs.Waiting.{tail_of}
use Rattle.interp.specs.Run.{seen, args_of}
use Rattle.interp_state.specs.ViewLaws.{items_nil, last_of}
use Rattle.interp.proofs.Asking.{fine_call, machine_started, is_started, machine_trapped, is_trapped}
use Rattle.interp.proofs.functions.start_function.Goals as goal

pub enter-requires-clause-call : goal.enter-requires-clause-call
enter-requires-clause-call g c = record { defined = c.requires.defined; fine = fine_call (seen c.args.run.now) c.args.func c.requires.call.calling }

pub returns-in-Ok-true-clause-kept : goal.returns-in-Ok-true-clause-kept
returns-in-Ok-true-clause-kept g c =
    let r = c.args.run.now in
    let entered = subst (λ (b : Bool). Enters r.lent r.parts c.args.func b c.enter.new.parts) c.in-Ok-true.field-0-test c.in-Ok-true.ensures.entered in
    let b = base_of r.lent in
    let q = c.settle_all.new.parts in
    let x = c.settle_all.new.waiting in
    let come = c.settle_all.ensures.comes (seen r).contract (args_of r.call.now.args r.argument) b c.requires.call.waits in
    record {
      machine = machine_started (seen r) c.args.func c.requires.call.calling (view b c.enter.new.parts) (view b q) (tail_of (args_of r.call.now.args r.argument) x) entered come.frees come.ordered (λ e. c.settle_all.ensures.ready (items_nil q.code.now e)) (last_of (args_of r.call.now.args r.argument) q x c.settle_all.ensures.last);
      counted = c.settle_all.ensures.counted;
      suits = ap (λ i. i.memory.max) (c.settle_all.ensures.instance ∙ c.enter.ensures.instance) ∙ c.requires.call.suits;
      waits = come.waits;
      place = c.settle_all.ensures.place;
      around = c.requires.call.around;
      entered = c.requires.call.entered;
      room = c.requires.call.room;
    }

pub returns-in-Ok-true-clause-turn : goal.returns-in-Ok-true-clause-turn
returns-in-Ok-true-clause-turn g c =
    let r = c.args.run.now in
    let entered = subst (λ (b : Bool). Enters r.lent r.parts c.args.func b c.enter.new.parts) c.in-Ok-true.field-0-test c.in-Ok-true.ensures.entered in
    let b = base_of r.lent in
    let q = c.settle_all.new.parts in
    let x = c.settle_all.new.waiting in
    let come = c.settle_all.ensures.comes (seen r).contract (args_of r.call.now.args r.argument) b c.requires.call.waits in
    is_started (seen r) c.args.func c.requires.call.calling (view b c.enter.new.parts) (view b q) (tail_of (args_of r.call.now.args r.argument) x) entered come.frees come.ordered (λ e. c.settle_all.ensures.ready (items_nil q.code.now e)) (last_of (args_of r.call.now.args r.argument) q x c.settle_all.ensures.last)

pub returns-in-Ok-false-clause-kept : goal.returns-in-Ok-false-clause-kept
returns-in-Ok-false-clause-kept g c =
    let r = c.args.run.now in
    let entered = subst (λ (b : Bool). Enters r.lent r.parts c.args.func b c.enter.new.parts) c.in-Ok-false.field-0-test c.in-Ok-false.ensures.entered in
    record {
      machine = machine_trapped (seen r) c.args.func c.requires.call.calling (view (base_of r.lent) c.enter.new.parts) CallDepth entered.0 entered.1;
      counted = c.in-Ok-false.ensures.counted;
      suits = ap (λ i. i.memory.max) c.enter.ensures.instance ∙ c.requires.call.suits;
      waits = c.requires.call.waits;
      place = c.requires.call.place;
      around = c.requires.call.around;
      entered = c.requires.call.entered;
      room = c.requires.call.room;
    }

pub returns-in-Ok-false-clause-turn : goal.returns-in-Ok-false-clause-turn
returns-in-Ok-false-clause-turn g c =
    let r = c.args.run.now in
    let entered = subst (λ (b : Bool). Enters r.lent r.parts c.args.func b c.enter.new.parts) c.in-Ok-false.field-0-test c.in-Ok-false.ensures.entered in
    is_trapped (seen r) c.args.func c.requires.call.calling (view (base_of r.lent) c.enter.new.parts) CallDepth entered.0 entered.1
