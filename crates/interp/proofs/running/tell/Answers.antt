use Rattle.std.proofs.Common.{subst, sym, length}
use Rattle.interp.specs.declared.turns.Status.{Status}
use Rattle.interp.specs.Progress.{IsToldAt, IsToStop}
use Rattle.interp.specs.Machine.{IsAt, HasRoom, progress}
use Rattle.interp.specs.Run.{seen}
use Rattle.interp.proofs.Turning.{has_ended}
use Rattle.interp.proofs.running.tell.Goals as goal

pub returns-in-Ended-clause-turn : goal.returns-in-Ended-clause-turn
returns-in-Ended-clause-turn g c = has_ended (seen c.args.run.now) c.requires.kept.machine c.in-Ended.outcome c.in-Ended.is

pub returns-in-Fallen-clause-told : goal.returns-in-Fallen-clause-told
returns-in-Fallen-clause-told g c =
    let r = c.args.run.now in
    subst (λ (x : Status). IsToldAt (progress (seen r)) c.tell_trap.result (progress (seen c.tell_trap.new.run)) x) (sym c.in-Fallen.is) c.tell_trap.ensures.told

pub tell_out_of_fuel-requires-clause-shut : goal.tell_out_of_fuel-requires-clause-shut
tell_out_of_fuel-requires-clause-shut g c = subst (IsAt (seen c.args.run.now)) c.in-Closing.is c.requires.kept.machine.at

pub tell_out_of_fuel-requires-clause-room : goal.tell_out_of_fuel-requires-clause-room
tell_out_of_fuel-requires-clause-room g c =
    let r = c.args.run.now in
    subst (λ (x : Status). HasRoom x (length r.outer.items) r.trace) c.in-Closing.is c.requires.kept.room

pub tell_out_of_fuel-requires-clause-stops : goal.tell_out_of_fuel-requires-clause-stops
tell_out_of_fuel-requires-clause-stops g c = let r = c.args.run.now in subst (λ (x : Status). IsToStop (progress (seen r)) x) (sym c.in-Closing.is) tt

pub returns-in-Closing-clause-told : goal.returns-in-Closing-clause-told
returns-in-Closing-clause-told g c =
    let r = c.args.run.now in
    subst (λ (x : Status). IsToldAt (progress (seen r)) c.tell_out_of_fuel.result (progress (seen c.tell_out_of_fuel.new.run)) x) (sym c.in-Closing.is) c.tell_out_of_fuel.ensures.told
