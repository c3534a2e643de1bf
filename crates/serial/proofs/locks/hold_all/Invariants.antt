use Rattle.std.proofs.Common.{◌≡◌, T, drop}
use Rattle.std.specs.FinMap.{is_sorted}
use Rattle.spec_ledger.specs.Cells.{lock_cmp}
use Rattle.lock_profile.specs.Groups.{pairs}
use Rattle.serial.specs.Asking.{modes_in, asked_all, with_last, DoNotFallFrom}
use Rattle.serial.proofs.locks.hold_all.Given as goal

abbrev pub invariant-loop-one : goal.invariant-loop-one
invariant-loop-one g l = record {
  rises : T (is_sorted lock_cmp (with_last l.held.items l.last));
  behind : DoNotFallFrom l.last.lock (drop l.one-index l.rest);
  modes : asked_all (modes_in (with_last l.held.items l.last)) (pairs (drop l.one-index l.rest)) ≡ asked_all (modes_in (with_last l.fn.held.items l.fn.last)) (pairs l.rest);
}
