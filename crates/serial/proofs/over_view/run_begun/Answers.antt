use Rattle.std.proofs.Common.{cond, sym, subst}
use Rattle.std.specs.Prelude.{All}
use Rattle.spec_execution.specs.ReadWriteSets.{IsReadWriteSet}
use Rattle.interp.specs.Progress.{played_of}
use Rattle.serial.specs.FoundCells.{IsFoundBy}
use Rattle.serial.specs.Touches.{IsPlayedBeside, found_in, later_in}
use Rattle.serial.proofs.MachineProgress.{not_unfinished}
use Rattle.serial.proofs.OverViewEnding.{behind_is, executed_beside, found_are, put_behind}
use Rattle.serial.proofs.Reading.{all_found}
use Rattle.serial.proofs.over_view.run_begun.Goals as goal

pub unreachable-requires : goal.unreachable-requires
unreachable-requires g c = not_unfinished c.play_begun.new.machine.status c.in_ok-touches.ensures.ended c.in-None.ensures.none

pub returns-clause-read_write_set : goal.returns-clause-read_write_set
returns-clause-read_write_set g c =
    let start = c.args.machine.now in
    let es = c.in_ok-touches.touches.entries in
    let came = c.in-Some.ensures.some in
    let same = c.in_ok-touches.ensures.same in
    let played = played_of c.play_begun.new.machine c.in-Some.receipt.outcome in
    let p : IsPlayedBeside start.setting start.call played es = record { lent = same.setting; call_is = same.call; touched = c.in_ok-touches.ensures.touched } in
    let e = executed_beside start.setting start.call played es p came.played c.in-Some.receipt came.receipt
    c.returned.result c.returned.ensures c.in_ok-touched-in-Some.touched c.in_ok-touched-in-Some.ensures.touched in
    subst (λ l. IsReadWriteSet start.setting start.call l c.in-Some.receipt c.in_ok-touched-in-Some.touched) (sym (behind_is c.args.accesses.now.items c.list.new.accesses.items _ c.in_ok-touched-in-Some.ensures.accesses))
    (c.an_execution_has_a_read_write_set.ensures.read_write_set _ _ _ _ _ _ (found_are start.setting start.call played es p) e)

pub returns-clause-told : goal.returns-clause-told
returns-clause-told g c = record {
  found = found_in c.in_ok-touches.touches.entries;
  later = cond c.returned.result (later_in c.in_ok-touches.touches.entries) (found_in c.in_ok-touches.touches.entries);
  are = behind_is c.args.accesses.now.items c.list.new.accesses.items _ c.in_ok-touched-in-Some.ensures.accesses;
}

pub returns-clause-read : goal.returns-clause-read
returns-clause-read g c =
    let may_read = g.V.Reads.may_read c.args.view.now in
    let es = c.in_ok-touches.touches.entries in
    subst (All (IsFoundBy may_read)) (sym (behind_is c.args.accesses.now.items c.list.new.accesses.items _ c.in_ok-touched-in-Some.ensures.accesses))
    (all_found may_read es (cond c.returned.result (later_in es) (found_in es)) c.in_ok-touched-in-Some.touched c.in_ok-touched-in-Some.ensures.touched c.in_ok-touches.ensures.read)

pub returns-clause-accesses : goal.returns-clause-accesses
returns-clause-accesses g c = put_behind c.args.accesses.now.items c.list.new.accesses.items _ c.in_ok-touched-in-Some.ensures.accesses
