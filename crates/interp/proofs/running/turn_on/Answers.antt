use Rattle.std.proofs.Common.{◌≡◌, ◌<◌, ◌≤◌, ap, arith}
use Rattle.interp.specs.Machine.{progress}
use Rattle.interp.specs.Run.{seen}
use Rattle.interp.specs.Turns.{none}
use Rattle.interp.proofs.Telling.{told_stops}
use Rattle.interp.proofs.Stepping.{free_of, steps_join, within_of, turned_after, turned_stepped, steps_fuel, stepped_used}
use Rattle.interp.proofs.running.turn_on.Goals as goal

pub turns-init : goal.turns-init
turns-init g c = record { kept = c.requires.kept; free = c.requires.free; steps = none _ }

pub turns-smaller : goal.turns-smaller
turns-smaller g c =
    let m = c.turns.run in
    let q = c.make_turns.new.run in
    let h = c.in-Stepped.ensures.turned in
    let more : m.used < q.used = stepped_used (progress (seen m)) (progress (seen q)) h in
    let fuel : q.call.now.fuel ≡ m.call.now.fuel = ap (λ x. x.fuel) (steps_fuel _ _ (turned_stepped _ _ h)) in
    let within : q.used ≤ q.call.now.fuel = within_of (seen q) c.make_turns.ensures.kept.machine h.last.goes_on in
    omega (arith, more, fuel, within)

pub turns-preserved : goal.turns-preserved
turns-preserved g c = record {
  kept = c.make_turns.ensures.kept;
  free = free_of c.make_turns.new.run.status c.in-Stepped.ensures.turned.last.goes_on;
  steps = steps_join _ _ _ c.turns.invariant.steps (turned_stepped _ _ c.in-Stepped.ensures.turned);
}

pub returns-in-Host-clause-turned : goal.returns-in-Host-clause-turned
returns-in-Host-clause-turned g c = turned_after _ _ _ _ c.turns.invariant.steps c.in-Host.ensures.turned

pub returns-in-Enter-clause-turned : goal.returns-in-Enter-clause-turned
returns-in-Enter-clause-turned g c = turned_after _ _ _ _ c.turns.invariant.steps c.in-Enter.ensures.turned

pub returns-in-Leave-clause-turned : goal.returns-in-Leave-clause-turned
returns-in-Leave-clause-turned g c = turned_after _ _ _ _ c.turns.invariant.steps c.in-Leave.ensures.turned

pub returns-in-NoMemory-clause-turned : goal.returns-in-NoMemory-clause-turned
returns-in-NoMemory-clause-turned g c = turned_after _ _ _ _ c.turns.invariant.steps c.in-NoMemory.ensures.turned

pub returns-in-Done-clause-turned : goal.returns-in-Done-clause-turned
returns-in-Done-clause-turned g c = turned_after _ _ _ _ c.turns.invariant.steps c.in-Done.ensures.turned

-- what is told at an end is no step
pub returns-in_default : goal.returns-in_default
returns-in_default g c = record {
  kept = c.tell.ensures.kept;
  turned = record {
    before = progress (seen c.turns.run);
    steps = c.turns.invariant.steps;
    last = c.tell.ensures.turn;
    told = c.tell.ensures.told;
    no_memory = c.tell.ensures.no_memory;
    same = c.tell.ensures.same;
  };
  stops = told_stops _ c.tell.result (progress (seen c.tell.new.run)) c.turns.run.status c.in_default.not-Running c.turns.invariant.free c.tell.ensures.told;
}
