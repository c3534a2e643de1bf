use Rattle.std.proofs.Common.{◌≡◌, ◌+◌, ◌≤◌, ap, ◌∙◌, sym, subst, true≢false, length, Ok, Fits, w64, arith, rules}
use Rattle.std.specs.Prelude.{◌==◌}
use Rattle.interp_state.specs.declared.plain.After.{After}
use Rattle.interp_state.specs.Callee.{base_of}
use Rattle.interp_state.specs.Views.{view}
use Rattle.interp_state.specs.Waiting.{tail_of}
use Rattle.interp_steps.specs.Steps.{LeadsTo, Wants}
use Rattle.interp.specs.declared.turns.Turn.{Turn}
use Rattle.interp.specs.declared.turns.Turn.TheVariants as turn
use Rattle.interp.specs.Progress.{NextIs, HasStepped}
use Rattle.interp.specs.Run.{seen, args_of}
use Rattle.interp.proofs.Copying.{room_kept}
use Rattle.interp_state.specs.ViewLaws.{items_nil, ordered_any, last_of}
use Rattle.interp.proofs.Turning.{live_of, below, safe_at, machine_fell, has_fallen}
use Rattle.interp.specs.Machine.{progress}
use Rattle.interp.specs.Turns.{none, one_more}
use Rattle.interp.proofs.Wanting.{may_take}
use Rattle.interp.proofs.Stepping.{turned, steps_join, steps_used, steps_fuel}
use Rattle.interp.proofs.Striding.{HasCome, one_turn, fits_one_more}
use Rattle.interp.proofs.Asking.{calling_of, asked_turn, started_turn}
use Rattle.interp.proofs.running.make_turns.Given as given
use Rattle.interp.proofs.running.make_turns.Goals as goal
use Rattle.interp.proofs.running.make_turns.Goals.{In-Stepped}

pub turns-init : goal.turns-init
turns-init g c = record { kept = c.requires.kept; running = c.requires.running; steps = none _ }

pub run_straight_line_on-requires-clause-some : goal.run_straight_line_on-requires-clause-some
run_straight_line_on-requires-clause-some g c = λ e. true≢false (sym (ap (λ xs. length xs == 0) e) ∙ (sym c.is_empty.ensures ∙ c.if-is_empty.false))

pub turns-preserved-then-run_straight_line_on : goal.turns-preserved-then-run_straight_line_on
turns-preserved-then-run_straight_line_on g c = record { kept = c.run_straight_line_on.ensures.kept; running = c.run_straight_line_on.ensures.running; steps = steps_join _ _ _ c.turns.invariant.steps c.run_straight_line_on.ensures.steps }

pub turns-smaller-then-run_straight_line_on : goal.turns-smaller-then-run_straight_line_on
turns-smaller-then-run_straight_line_on g c =
    let r = c.run_straight_line_on.new.run in
    let more = c.run_straight_line_on.ensures.more c.if-run_straight_line_on.true in
    let fuel : r.call.now.fuel ≡ c.turns.run.call.now.fuel = ap (λ x. x.fuel) (steps_fuel _ _ c.run_straight_line_on.ensures.steps) in
    let within : r.used ≤ r.call.now.fuel = (live_of (seen r) c.run_straight_line_on.ensures.kept.machine c.run_straight_line_on.ensures.running).within in
    omega (arith, more, fuel, within)

pub overflow_add-run : goal.overflow_add-run
overflow_add-run g c =
    let e = c.run_straight_line_on.ensures in
    fits_one_more (seen c.turns.run) (seen c.run_straight_line_on.new.run) (record { machine = e.kept.machine; steps = e.steps }) e.running (e.left c.if-run_straight_line_on.false) (subst (Fits w64) c.fuel.ensures (search rules))

pub overflow_add-run-in-Ok-Fell : goal.overflow_add-run-in-Ok-Fell
overflow_add-run-in-Ok-Fell g c =
    let e = c.run_straight_line_on.ensures in
    fits_one_more (seen c.turns.run) (seen c.run_straight_line_on.new.run) (record { machine = e.kept.machine; steps = e.steps }) e.running (e.left c.if-run_straight_line_on.false) (subst (Fits w64) c.fuel.ensures (search rules))

pub overflow_add-run-in-Ok-Calls : goal.overflow_add-run-in-Ok-Calls
overflow_add-run-in-Ok-Calls g c =
    let e = c.run_straight_line_on.ensures in
    fits_one_more (seen c.turns.run) (seen c.run_straight_line_on.new.run) (record { machine = e.kept.machine; steps = e.steps }) e.running (e.left c.if-run_straight_line_on.false) (subst (Fits w64) c.fuel.ensures (search rules))

pub turns-smaller-in-Ok-Ran : goal.turns-smaller-in-Ok-Ran
turns-smaller-in-Ok-Ran g c =
    let r = c.run_straight_line_on.new.run in
    let fuel : r.call.now.fuel ≡ c.turns.run.call.now.fuel = ap (λ x. x.fuel) (steps_fuel _ _ c.run_straight_line_on.ensures.steps) in
    let used : c.turns.run.used ≤ r.used = steps_used _ _ c.run_straight_line_on.ensures.steps in
    let enough : r.used + 1 ≤ r.call.now.fuel = below (seen r) c.run_straight_line_on.ensures.kept.machine c.run_straight_line_on.ensures.running (c.run_straight_line_on.ensures.left c.if-run_straight_line_on.false) in
    omega (arith, fuel, used, enough)

pub execute-requires-clause-ready : goal.execute-requires-clause-ready
execute-requires-clause-ready g c =
    let r = c.run_straight_line_on.new.run in
    let m = c.run_straight_line_on.ensures.kept.machine in
    record {
      base = base_of r.lent;
      some = c.run_straight_line_on.ensures.some c.if-run_straight_line_on.false;
      ordered = ordered_any (base_of r.lent) r.parts (live_of (seen r) m c.run_straight_line_on.ensures.running).ordered;
      safe = safe_at (seen r) m c.run_straight_line_on.ensures.running (c.run_straight_line_on.ensures.left c.if-run_straight_line_on.false);
    }

pub settle_all-requires-clause-ordered : goal.settle_all-requires-clause-ordered
settle_all-requires-clause-ordered g c =
    let r = c.run_straight_line_on.new.run in
    let safe = safe_at (seen r) c.run_straight_line_on.ensures.kept.machine c.run_straight_line_on.ensures.running (c.run_straight_line_on.ensures.left c.if-run_straight_line_on.false) in
    ordered_any (base_of r.lent) c.execute.new.parts (subst (λ (a : After). LeadsTo r.lent r.parts a c.execute.new.parts) c.in-Ok-Ran.field-0-is c.in-Ok-Ran.ensures.led (base_of r.lent) safe c.run_straight_line_on.ensures.kept.suits).ordered

pub ask-requires-clause-call : goal.ask-requires-clause-call
ask-requires-clause-call g c =
    let r = c.run_straight_line_on.new.run in
    let k = c.run_straight_line_on.ensures.kept in
    record {
      calling = calling_of (seen r) c.in-Ok-Calls.f (view (base_of r.lent) c.execute.new.parts) k.machine c.run_straight_line_on.ensures.running (c.run_straight_line_on.ensures.left c.if-run_straight_line_on.false)
          (subst (λ (a : After). LeadsTo r.lent r.parts a c.execute.new.parts) c.in-Ok-Calls.field-0-is c.in-Ok-Calls.ensures.led (base_of r.lent) (safe_at (seen r) c.run_straight_line_on.ensures.kept.machine c.run_straight_line_on.ensures.running (c.run_straight_line_on.ensures.left c.if-run_straight_line_on.false)) c.run_straight_line_on.ensures.kept.suits);
      counted = c.in-Ok-Calls.ensures.counted;
      suits = c.execute.ensures.max ∙ k.suits;
      waits = k.waits;
      place = k.place;
      around = k.around;
      entered = k.entered;
      room = room_kept r.status (length r.outer.items) r.trace c.run_straight_line_on.ensures.running k.room;
    }

pub start_function-requires-clause-call : goal.start_function-requires-clause-call
start_function-requires-clause-call g c =
    let r = c.run_straight_line_on.new.run in
    let k = c.run_straight_line_on.ensures.kept in
    record {
      calling = calling_of (seen r) c.in-Ok-Calls.f (view (base_of r.lent) c.execute.new.parts) k.machine c.run_straight_line_on.ensures.running (c.run_straight_line_on.ensures.left c.if-run_straight_line_on.false)
          (subst (λ (a : After). LeadsTo r.lent r.parts a c.execute.new.parts) c.in-Ok-Calls.field-0-is c.in-Ok-Calls.ensures.led (base_of r.lent) (safe_at (seen r) c.run_straight_line_on.ensures.kept.machine c.run_straight_line_on.ensures.running (c.run_straight_line_on.ensures.left c.if-run_straight_line_on.false)) c.run_straight_line_on.ensures.kept.suits);
      counted = c.in-Ok-Calls.ensures.counted;
      suits = c.execute.ensures.max ∙ k.suits;
      waits = k.waits;
      place = k.place;
      around = k.around;
      entered = k.entered;
      room = room_kept r.status (length r.outer.items) r.trace c.run_straight_line_on.ensures.running k.room;
    }

pub turns-preserved-in-Ok-Ran : goal.turns-preserved-in-Ok-Ran
turns-preserved-in-Ok-Ran g c =
    let r = c.run_straight_line_on.new.run in
    let k = c.run_straight_line_on.ensures.kept in
    let b = base_of r.lent in
    let args = args_of r.call.now.args r.argument in
    let running = c.run_straight_line_on.ensures.running in
    let left = c.run_straight_line_on.ensures.left c.if-run_straight_line_on.false in
    let charge = subst (λ (a : After). LeadsTo r.lent r.parts a c.execute.new.parts) c.in-Ok-Ran.field-0-is c.in-Ok-Ran.ensures.led b (safe_at (seen r) k.machine running left) k.suits in
    let q = c.settle_all.new.parts in
    let x = c.settle_all.new.waiting in
    let settled = c.settle_all.ensures in
    let come = settled.comes (seen r).contract args b k.waits in
    let behind : HasCome (seen c.args.run.now) (seen r) = record { machine = k.machine; steps = steps_join _ _ _ c.turns.invariant.steps c.run_straight_line_on.ensures.steps } in
    let came = one_turn (seen c.args.run.now) (seen r) behind running left _ (view b q) (tail_of args x) charge come.frees come.ordered (λ e. settled.ready (items_nil q.code.now e)) (last_of args q x settled.last) in
    record {
      kept = record {
        machine = came.machine;
        counted = settled.counted;
        suits = ap (λ i. i.memory.max) settled.instance ∙ (c.execute.ensures.max ∙ k.suits);
        waits = come.waits;
        place = settled.place;
        around = k.around;
        entered = k.entered;
        room = k.room;
      };
      running = running;
      steps = came.steps;
    }

pub returns-in-Ok-Fell-clause-kept : goal.returns-in-Ok-Fell-clause-kept
returns-in-Ok-Fell-clause-kept g c =
    let r = c.run_straight_line_on.new.run in
    let k = c.run_straight_line_on.ensures.kept in
    let b = base_of r.lent in
    let fell = subst (λ (a : After). LeadsTo r.lent r.parts a c.execute.new.parts) c.in-Ok-Fell.field-0-is c.in-Ok-Fell.ensures.led b (safe_at (seen r) c.run_straight_line_on.ensures.kept.machine c.run_straight_line_on.ensures.running (c.run_straight_line_on.ensures.left c.if-run_straight_line_on.false)) c.run_straight_line_on.ensures.kept.suits in
    record {
      machine = machine_fell (seen r) k.machine c.run_straight_line_on.ensures.running (c.run_straight_line_on.ensures.left c.if-run_straight_line_on.false) (view b c.execute.new.parts) c.in-Ok-Fell.code fell.reduces;
      counted = c.in-Ok-Fell.ensures.counted;
      suits = c.execute.ensures.max ∙ k.suits;
      waits = k.waits;
      place = k.place;
      around = k.around;
      entered = k.entered;
      room = room_kept r.status (length r.outer.items) r.trace c.run_straight_line_on.ensures.running k.room;
    }

pub returns-in-Ok-Fell-clause-turned : goal.returns-in-Ok-Fell-clause-turned
returns-in-Ok-Fell-clause-turned g c =
    let r = c.run_straight_line_on.new.run in
    let k = c.run_straight_line_on.ensures.kept in
    let b = base_of r.lent in
    let fell = subst (λ (a : After). LeadsTo r.lent r.parts a c.execute.new.parts) c.in-Ok-Fell.field-0-is c.in-Ok-Fell.ensures.led b (safe_at (seen r) c.run_straight_line_on.ensures.kept.machine c.run_straight_line_on.ensures.running (c.run_straight_line_on.ensures.left c.if-run_straight_line_on.false)) c.run_straight_line_on.ensures.kept.suits in
    turned _ _ _ _ (steps_join _ _ _ c.turns.invariant.steps c.run_straight_line_on.ensures.steps) c.run_straight_line_on.ensures.running (has_fallen (seen r) k.machine c.run_straight_line_on.ensures.running (c.run_straight_line_on.ensures.left c.if-run_straight_line_on.false) (view b c.execute.new.parts) c.in-Ok-Fell.code fell.reduces)
    (λ e. absurd (cc)) (λ e. absurd (cc))

pub returns-then-f-run-clause-turned : goal.returns-then-f-run-clause-turned
returns-then-f-run-clause-turned g c =
    let r = c.run_straight_line_on.new.run in
    let b = base_of r.lent in
    turned _ _ _ _ (steps_join _ _ _ c.turns.invariant.steps c.run_straight_line_on.ensures.steps) c.run_straight_line_on.ensures.running
    (asked_turn (seen r) c.in-Ok-Calls.f (view b c.execute.new.parts) c.ask.result (seen c.ask.new.run) c.run_straight_line_on.ensures.running
    (subst (λ (a : After). LeadsTo r.lent r.parts a c.execute.new.parts) c.in-Ok-Calls.field-0-is c.in-Ok-Calls.ensures.led b (safe_at (seen r) c.run_straight_line_on.ensures.kept.machine c.run_straight_line_on.ensures.running (c.run_straight_line_on.ensures.left c.if-run_straight_line_on.false)) c.run_straight_line_on.ensures.kept.suits) c.ask.ensures.turn)
    (λ h. may_take (seen c.run_straight_line_on.new.run) c.run_straight_line_on.ensures.kept.machine c.run_straight_line_on.ensures.running (c.run_straight_line_on.ensures.left c.if-run_straight_line_on.false)
    (c.in-Ok-Calls.ensures.takes (subst (λ (a : After). Wants {E = Unit {0}} (Ok a)) (sym c.in-Ok-Calls.field-0-is) tt)))
    (λ h. let s = c.ask.ensures.same h in record { setting = s.setting; call = s.call; contract = s.contract; func = s.func })

-- the turn of a call of a function of the module
stepped : (g : given.Over) (c : In-Stepped g) → HasStepped (progress (seen c.run_straight_line_on.new.run)) (progress (seen c.start_function.new.run))
stepped g c =
    let r = c.run_straight_line_on.new.run in
    let b = base_of r.lent in
    started_turn (seen r) c.in-Ok-Calls.f (view b c.execute.new.parts) turn.Stepped (seen c.start_function.new.run) c.run_straight_line_on.ensures.running
    (subst (λ (a : After). LeadsTo r.lent r.parts a c.execute.new.parts) c.in-Ok-Calls.field-0-is c.in-Ok-Calls.ensures.led b (safe_at (seen r) c.run_straight_line_on.ensures.kept.machine c.run_straight_line_on.ensures.running (c.run_straight_line_on.ensures.left c.if-run_straight_line_on.false)) c.run_straight_line_on.ensures.kept.suits) c.start_function.ensures.kept.machine c.in-Stepped.ensures.turn

pub turns-preserved : goal.turns-preserved
turns-preserved g c = record {
  kept = c.start_function.ensures.kept;
  running = c.in-Running.is;
  steps = one_more _ _ _ (steps_join _ _ _ c.turns.invariant.steps c.run_straight_line_on.ensures.steps) (stepped g (goal.at.turns-preserved g c).In-Stepped);
}

pub turns-smaller : goal.turns-smaller
turns-smaller g c =
    let r = c.run_straight_line_on.new.run in
    let q = c.start_function.new.run in
    let step = stepped g (goal.at.turns-smaller g c).In-Stepped in
    let fuel : q.call.now.fuel ≡ c.turns.run.call.now.fuel = ap (λ x. x.fuel) (step.same.call ∙ steps_fuel _ _ c.run_straight_line_on.ensures.steps) in
    let used : c.turns.run.used ≤ r.used = steps_used _ _ c.run_straight_line_on.ensures.steps in
    let more : q.used ≡ r.used + 1 = step.used in
    let within : q.used ≤ q.call.now.fuel = (live_of (seen q) c.start_function.ensures.kept.machine c.in-Running.is).within in
    omega (arith, fuel, used, more, within)

pub returns-in_default-status-clause-turned : goal.returns-in_default-status-clause-turned
returns-in_default-status-clause-turned g c =
    turned _ _ turn.Stepped _ (steps_join _ _ _ c.turns.invariant.steps c.run_straight_line_on.ensures.steps) c.run_straight_line_on.ensures.running (stepped g (goal.at.returns-in_default-status-clause-turned g c).In-Stepped)
    (λ e. absurd (cc)) (λ e. absurd (cc))

pub returns-in_default-clause-turned : goal.returns-in_default-clause-turned
returns-in_default-clause-turned g c =
    let r = c.run_straight_line_on.new.run in
    let b = base_of r.lent in
    turned _ _ _ _ (steps_join _ _ _ c.turns.invariant.steps c.run_straight_line_on.ensures.steps) c.run_straight_line_on.ensures.running
    (started_turn (seen r) c.in-Ok-Calls.f (view b c.execute.new.parts) c.start_function.result (seen c.start_function.new.run) c.run_straight_line_on.ensures.running
    (subst (λ (a : After). LeadsTo r.lent r.parts a c.execute.new.parts) c.in-Ok-Calls.field-0-is c.in-Ok-Calls.ensures.led b (safe_at (seen r) c.run_straight_line_on.ensures.kept.machine c.run_straight_line_on.ensures.running (c.run_straight_line_on.ensures.left c.if-run_straight_line_on.false)) c.run_straight_line_on.ensures.kept.suits) c.start_function.ensures.kept.machine c.start_function.ensures.turn)
    (λ h. may_take (seen c.run_straight_line_on.new.run) c.run_straight_line_on.ensures.kept.machine c.run_straight_line_on.ensures.running (c.run_straight_line_on.ensures.left c.if-run_straight_line_on.false)
    (c.in-Ok-Calls.ensures.takes (subst (λ (a : After). Wants {E = Unit {0}} (Ok a)) (sym c.in-Ok-Calls.field-0-is) tt)))
    (λ h. let s = c.start_function.ensures.same h in record { setting = s.setting; call = s.call; contract = s.contract; func = s.func })

pub returns-in-Err-clause-turned : goal.returns-in-Err-clause-turned
returns-in-Err-clause-turned g c =
    let given = subst (λ (a : Turn). NextIs (progress (seen c.run_straight_line_on.new.run)) a (progress (seen c.give_up.new.run))) (sym c.give_up.ensures.turn) c.give_up.ensures.no_memory in
    turned (progress (seen c.args.run.now)) (progress (seen c.run_straight_line_on.new.run)) c.give_up.result (progress (seen c.give_up.new.run)) (steps_join _ _ _ c.turns.invariant.steps c.run_straight_line_on.ensures.steps) c.run_straight_line_on.ensures.running given
    (λ h. may_take (seen c.run_straight_line_on.new.run) c.run_straight_line_on.ensures.kept.machine c.run_straight_line_on.ensures.running (c.run_straight_line_on.ensures.left c.if-run_straight_line_on.false) (c.in-Err.ensures.takes tt))
    (λ h. let s = c.give_up.ensures.same in record { setting = s.setting; call = s.call; contract = s.contract; func = s.func })
