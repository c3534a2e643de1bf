use Rattle.std.proofs.Common.{cond, sym, subst}
use Rattle.std.specs.Prelude.{All}
use Rattle.spec_execution.specs.ReadWriteSets.{IsReadWriteSet}
use Rattle.interp.specs.Callee.{setting_view}
use Rattle.serial.specs.FoundCells.{IsFoundBy}
use Rattle.serial.specs.Touches.{found_in, later_in}
use Rattle.serial.proofs.OverViewEnding.{behind_is, executed_beside, found_are, put_behind}
use Rattle.serial.proofs.Reading.{all_found}
use Rattle.serial.proofs.over_view.run_over.Goals as goal

pub returns-clause-read_write_set : goal.returns-clause-read_write_set
returns-clause-read_write_set g c =
    let setting = setting_view c.args.version c.args.contracts.now in
    let call = c.args.call.now in
    let es = c.in_ok-finished.touches.entries in
    let p = c.in_ok-finished.ensures.played in
    let e = executed_beside setting call c.in_ok-finished.finished es p c.is_played.ensures c.receipt-receipt.result c.receipt-receipt.ensures
    c.returned.result c.returned.ensures c.in_ok-touched.touched c.in_ok-touched.ensures.touched in
    subst (λ l. IsReadWriteSet setting call l c.receipt-receipt.result c.in_ok-touched.touched) (sym (behind_is c.args.accesses.now.items c.list.new.accesses.items _ c.in_ok-touched.ensures.accesses))
    (c.an_execution_has_a_read_write_set.ensures.read_write_set _ _ _ _ _ _ (found_are setting call c.in_ok-finished.finished es p) e)

pub returns-clause-told : goal.returns-clause-told
returns-clause-told g c = record {
  found = found_in c.in_ok-finished.touches.entries;
  later = cond c.returned.result (later_in c.in_ok-finished.touches.entries) (found_in c.in_ok-finished.touches.entries);
  are = behind_is c.args.accesses.now.items c.list.new.accesses.items _ c.in_ok-touched.ensures.accesses;
}

pub returns-clause-read : goal.returns-clause-read
returns-clause-read g c =
    let may_read = g.V.Reads.may_read c.args.view.now in
    let es = c.in_ok-finished.touches.entries in
    subst (All (IsFoundBy may_read)) (sym (behind_is c.args.accesses.now.items c.list.new.accesses.items _ c.in_ok-touched.ensures.accesses))
    (all_found may_read es (cond c.returned.result (later_in es) (found_in es)) c.in_ok-touched.touched c.in_ok-touched.ensures.touched c.in_ok-finished.ensures.read)

pub returns-clause-accesses : goal.returns-clause-accesses
returns-clause-accesses g c = put_behind c.args.accesses.now.items c.list.new.accesses.items _ c.in_ok-touched.ensures.accesses
