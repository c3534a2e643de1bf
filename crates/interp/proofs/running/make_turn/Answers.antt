use Rattle.std.proofs.Common.{ap, ◌∙◌, sym, subst, true≢false, length, Ok}
use Rattle.std.specs.Prelude.{◌==◌}
use Rattle.interp_state.specs.declared.plain.After.{After}
use Rattle.interp_state.specs.Callee.{base_of}
use Rattle.interp_state.specs.Views.{view}
use Rattle.interp_state.specs.Waiting.{tail_of}
use Rattle.interp_steps.specs.Steps.{LeadsTo, Wants}
use Rattle.interp.specs.Run.{seen, args_of}
use Rattle.interp.proofs.Copying.{room_kept}
use Rattle.interp_state.specs.ViewLaws.{items_nil, ordered_any, last_of}
use Rattle.interp.proofs.Turning.{live_of, safe_at, machine_stepped, has_stepped, machine_fell, has_fallen}
use Rattle.laws_reduction.specs.Rest.{Frees_join}
use Rattle.laws_reduction.specs.Joining.{frees_joined}
use Rattle.interp.proofs.Wanting.{may_take}
use Rattle.interp.proofs.Asking.{calling_of, asked_turn, started_turn}
use Rattle.interp.proofs.running.make_turn.Goals as goal

pub run_out-requires-clause-some : goal.run_out-requires-clause-some
run_out-requires-clause-some g c = λ e. true≢false (sym (ap (λ xs. length xs == 0) e) ∙ (sym c.is_empty.ensures ∙ c.if-is_empty.false))

pub run_out-requires-clause-out : goal.run_out-requires-clause-out
run_out-requires-clause-out g c = c.if-run-fuel.true ∙ c.fuel.ensures

pub execute-requires : goal.execute-requires
execute-requires g c =
    let r = c.args.run.now in
    let m = c.requires.kept.machine in
    record {
      ready = record {
        base = base_of r.lent;
        some = λ e. true≢false (sym (ap (λ xs. length xs == 0) e) ∙ (sym c.is_empty.ensures ∙ c.if-is_empty.false));
        ordered = ordered_any (base_of r.lent) r.parts (live_of (seen r) m c.requires.running).ordered;
        safe = safe_at (seen r) m c.requires.running (λ e. c.if-run-fuel.false (e ∙ sym c.fuel.ensures));
      };
      counted = c.requires.kept.counted;
    }

pub settle_all-requires-clause-ordered : goal.settle_all-requires-clause-ordered
settle_all-requires-clause-ordered g c =
    let r = c.args.run.now in
    let safe = safe_at (seen r) c.requires.kept.machine c.requires.running (λ e. c.if-run-fuel.false (e ∙ sym c.fuel.ensures)) in
    ordered_any (base_of r.lent) c.execute.new.parts (subst (λ (a : After). LeadsTo r.lent r.parts a c.execute.new.parts) c.in-Ok-Ran.field-0-is c.in-Ok-Ran.ensures.led (base_of r.lent) safe c.requires.kept.suits).ordered

pub ask-requires-clause-call : goal.ask-requires-clause-call
ask-requires-clause-call g c =
    let r = c.args.run.now in
    let k = c.requires.kept in
    record {
      calling = calling_of (seen r) c.in-Ok-Calls.f (view (base_of r.lent) c.execute.new.parts) k.machine c.requires.running (λ e. c.if-run-fuel.false (e ∙ sym c.fuel.ensures))
          (subst (λ (a : After). LeadsTo r.lent r.parts a c.execute.new.parts) c.in-Ok-Calls.field-0-is c.in-Ok-Calls.ensures.led (base_of r.lent) (safe_at (seen r) c.requires.kept.machine c.requires.running (λ e. c.if-run-fuel.false (e ∙ sym c.fuel.ensures))) c.requires.kept.suits);
      counted = c.in-Ok-Calls.ensures.counted;
      suits = c.execute.ensures.max ∙ k.suits;
      waits = k.waits;
      place = k.place;
      around = k.around;
      entered = k.entered;
      room = room_kept r.status (length r.outer.items) r.trace c.requires.running k.room;
    }

pub start_function-requires-clause-call : goal.start_function-requires-clause-call
start_function-requires-clause-call g c =
    let r = c.args.run.now in
    let k = c.requires.kept in
    record {
      calling = calling_of (seen r) c.in-Ok-Calls.f (view (base_of r.lent) c.execute.new.parts) k.machine c.requires.running (λ e. c.if-run-fuel.false (e ∙ sym c.fuel.ensures))
          (subst (λ (a : After). LeadsTo r.lent r.parts a c.execute.new.parts) c.in-Ok-Calls.field-0-is c.in-Ok-Calls.ensures.led (base_of r.lent) (safe_at (seen r) c.requires.kept.machine c.requires.running (λ e. c.if-run-fuel.false (e ∙ sym c.fuel.ensures))) c.requires.kept.suits);
      counted = c.in-Ok-Calls.ensures.counted;
      suits = c.execute.ensures.max ∙ k.suits;
      waits = k.waits;
      place = k.place;
      around = k.around;
      entered = k.entered;
      room = room_kept r.status (length r.outer.items) r.trace c.requires.running k.room;
    }

pub returns-in-Ok-Ran-clause-kept : goal.returns-in-Ok-Ran-clause-kept
returns-in-Ok-Ran-clause-kept g c =
    let r = c.args.run.now in
    let k = c.requires.kept in
    let b = base_of r.lent in
    let charge = subst (λ (a : After). LeadsTo r.lent r.parts a c.execute.new.parts) c.in-Ok-Ran.field-0-is c.in-Ok-Ran.ensures.led b (safe_at (seen r) c.requires.kept.machine c.requires.running (λ e. c.if-run-fuel.false (e ∙ sym c.fuel.ensures))) c.requires.kept.suits in
    let q = c.settle_all.new.parts in
    let x = c.settle_all.new.waiting in
    let come = c.settle_all.ensures.comes (seen r).contract (args_of r.call.now.args r.argument) b c.requires.kept.waits in
    record {
      machine = machine_stepped (seen r) k.machine c.requires.running (λ e. c.if-run-fuel.false (e ∙ sym c.fuel.ensures)) _ charge.reduces (view b q) (tail_of (args_of r.call.now.args r.argument) x) (Frees_join _ _ _ _ (frees_joined (seen r).tail _ _ _ charge.frees) come.frees) come.ordered (λ e. c.settle_all.ensures.ready (items_nil q.code.now e)) (last_of (args_of r.call.now.args r.argument) q x c.settle_all.ensures.last);
      counted = c.settle_all.ensures.counted;
      suits = ap (λ i. i.memory.max) c.settle_all.ensures.instance ∙ (c.execute.ensures.max ∙ k.suits);
      waits = come.waits;
      place = c.settle_all.ensures.place;
      around = k.around;
      entered = k.entered;
      room = k.room;
    }

pub returns-in-Ok-Ran-clause-turn : goal.returns-in-Ok-Ran-clause-turn
returns-in-Ok-Ran-clause-turn g c =
    let r = c.args.run.now in
    let k = c.requires.kept in
    let b = base_of r.lent in
    let charge = subst (λ (a : After). LeadsTo r.lent r.parts a c.execute.new.parts) c.in-Ok-Ran.field-0-is c.in-Ok-Ran.ensures.led b (safe_at (seen r) c.requires.kept.machine c.requires.running (λ e. c.if-run-fuel.false (e ∙ sym c.fuel.ensures))) c.requires.kept.suits in
    let q = c.settle_all.new.parts in
    let x = c.settle_all.new.waiting in
    let come = c.settle_all.ensures.comes (seen r).contract (args_of r.call.now.args r.argument) b c.requires.kept.waits in
    has_stepped (seen r) k.machine c.requires.running (λ e. c.if-run-fuel.false (e ∙ sym c.fuel.ensures)) _ charge.reduces (view b q) (tail_of (args_of r.call.now.args r.argument) x) (Frees_join _ _ _ _ (frees_joined (seen r).tail _ _ _ charge.frees) come.frees) come.ordered (λ e. c.settle_all.ensures.ready (items_nil q.code.now e)) (last_of (args_of r.call.now.args r.argument) q x c.settle_all.ensures.last)

pub returns-in-Ok-Fell-clause-kept : goal.returns-in-Ok-Fell-clause-kept
returns-in-Ok-Fell-clause-kept g c =
    let r = c.args.run.now in
    let k = c.requires.kept in
    let b = base_of r.lent in
    let fell = subst (λ (a : After). LeadsTo r.lent r.parts a c.execute.new.parts) c.in-Ok-Fell.field-0-is c.in-Ok-Fell.ensures.led b (safe_at (seen r) c.requires.kept.machine c.requires.running (λ e. c.if-run-fuel.false (e ∙ sym c.fuel.ensures))) c.requires.kept.suits in
    record {
      machine = machine_fell (seen r) k.machine c.requires.running (λ e. c.if-run-fuel.false (e ∙ sym c.fuel.ensures)) (view b c.execute.new.parts) c.in-Ok-Fell.code fell.reduces;
      counted = c.in-Ok-Fell.ensures.counted;
      suits = c.execute.ensures.max ∙ k.suits;
      waits = k.waits;
      place = k.place;
      around = k.around;
      entered = k.entered;
      room = room_kept r.status (length r.outer.items) r.trace c.requires.running k.room;
    }

pub returns-in-Ok-Fell-clause-turn : goal.returns-in-Ok-Fell-clause-turn
returns-in-Ok-Fell-clause-turn g c =
    let r = c.args.run.now in
    let k = c.requires.kept in
    let b = base_of r.lent in
    let fell = subst (λ (a : After). LeadsTo r.lent r.parts a c.execute.new.parts) c.in-Ok-Fell.field-0-is c.in-Ok-Fell.ensures.led b (safe_at (seen r) c.requires.kept.machine c.requires.running (λ e. c.if-run-fuel.false (e ∙ sym c.fuel.ensures))) c.requires.kept.suits in
    has_fallen (seen r) k.machine c.requires.running (λ e. c.if-run-fuel.false (e ∙ sym c.fuel.ensures)) (view b c.execute.new.parts) c.in-Ok-Fell.code fell.reduces

pub returns-then-f-run-clause-turn : goal.returns-then-f-run-clause-turn
returns-then-f-run-clause-turn g c =
    let r = c.args.run.now in
    let b = base_of r.lent in
    asked_turn (seen r) c.in-Ok-Calls.f (view b c.execute.new.parts) c.ask.result (seen c.ask.new.run) c.requires.running
    (subst (λ (a : After). LeadsTo r.lent r.parts a c.execute.new.parts) c.in-Ok-Calls.field-0-is c.in-Ok-Calls.ensures.led b (safe_at (seen r) c.requires.kept.machine c.requires.running (λ e. c.if-run-fuel.false (e ∙ sym c.fuel.ensures))) c.requires.kept.suits) c.ask.ensures.turn

pub returns-else-f-run-clause-turn : goal.returns-else-f-run-clause-turn
returns-else-f-run-clause-turn g c =
    let r = c.args.run.now in
    let b = base_of r.lent in
    started_turn (seen r) c.in-Ok-Calls.f (view b c.execute.new.parts) c.start_function.result (seen c.start_function.new.run) c.requires.running
    (subst (λ (a : After). LeadsTo r.lent r.parts a c.execute.new.parts) c.in-Ok-Calls.field-0-is c.in-Ok-Calls.ensures.led b (safe_at (seen r) c.requires.kept.machine c.requires.running (λ e. c.if-run-fuel.false (e ∙ sym c.fuel.ensures))) c.requires.kept.suits) c.start_function.ensures.kept.machine c.start_function.ensures.turn

pub returns-then-f-run-clause-no_memory : goal.returns-then-f-run-clause-no_memory
returns-then-f-run-clause-no_memory g c h =
    may_take (seen c.args.run.now) c.requires.kept.machine c.requires.running (λ e. c.if-run-fuel.false (e ∙ sym c.fuel.ensures))
    (c.in-Ok-Calls.ensures.takes (subst (λ (a : After). Wants {E = Unit {0}} (Ok a)) (sym c.in-Ok-Calls.field-0-is) tt))

pub returns-else-f-run-clause-no_memory : goal.returns-else-f-run-clause-no_memory
returns-else-f-run-clause-no_memory g c h =
    may_take (seen c.args.run.now) c.requires.kept.machine c.requires.running (λ e. c.if-run-fuel.false (e ∙ sym c.fuel.ensures))
    (c.in-Ok-Calls.ensures.takes (subst (λ (a : After). Wants {E = Unit {0}} (Ok a)) (sym c.in-Ok-Calls.field-0-is) tt))

pub returns-in-Err-clause-no_memory : goal.returns-in-Err-clause-no_memory
returns-in-Err-clause-no_memory g c h =
    may_take (seen c.args.run.now) c.requires.kept.machine c.requires.running (λ e. c.if-run-fuel.false (e ∙ sym c.fuel.ensures)) (c.in-Err.ensures.takes tt)
