use Rattle.std.proofs.Common.{subst, length}
use Rattle.interp.specs.declared.turns.Status.{Status}
use Rattle.interp.specs.Machine.{HasRoom}
use Rattle.interp.specs.Run.{seen}
use Rattle.interp_state.specs.ViewLaws.{items_nil}
use Rattle.interp.proofs.Turning.{is_shut, stops_here}
use Rattle.interp.proofs.running.run_out.Goals as goal

pub tell_out_of_fuel-requires-clause-shut : goal.tell_out_of_fuel-requires-clause-shut
tell_out_of_fuel-requires-clause-shut g c =
    let r = c.args.run.now in
    is_shut (seen r) c.requires.kept.machine c.requires.running (λ e. c.requires.some (items_nil r.parts.code.now e)) c.requires.out

pub tell_out_of_fuel-requires-clause-room : goal.tell_out_of_fuel-requires-clause-room
tell_out_of_fuel-requires-clause-room g c =
    let r = c.args.run.now in
    subst (λ (x : Status). HasRoom x (length r.outer.items) r.trace) c.requires.running c.requires.kept.room

pub tell_out_of_fuel-requires-clause-stops : goal.tell_out_of_fuel-requires-clause-stops
tell_out_of_fuel-requires-clause-stops g c =
    let r = c.args.run.now in
    stops_here (seen r) c.requires.kept.machine c.requires.running (λ e. c.requires.some (items_nil r.parts.code.now e)) c.requires.out
