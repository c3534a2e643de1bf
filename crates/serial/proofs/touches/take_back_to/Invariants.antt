use Rattle.std.proofs.Common.{◌≡◌, ◌≤◌, vec_len, length, take, drop}
use Rattle.std.specs.List.{AllByRecursion}
use Rattle.spec_ledger.specs.Book.{back_all}
use Rattle.serial.specs.Touches.{IsTouched, found_in, later_in, modes_of}
use Rattle.serial.proofs.touches.take_back_to.Given as goal

abbrev pub invariant-loop-inverses : goal.invariant-loop-inverses
invariant-loop-inverses g l = record {
  some : l.fn.mark ≤ length l.inverses.items;
  kept : take l.fn.mark l.inverses.items ≡ take l.fn.mark l.fn.inverses.items;
  found : found_in l.touches.entries ≡ found_in l.fn.touches.entries;
  later : back_all (drop l.fn.mark l.inverses.items) (later_in l.touches.entries) ≡ back_all (drop l.fn.mark l.fn.inverses.items) (later_in l.fn.touches.entries);
  modes : modes_of l.touches.entries ≡ modes_of l.fn.touches.entries;
  touched : AllByRecursion (IsTouched (modes_of l.touches.entries)) l.inverses.items;
}

abbrev pub decreases-loop-inverses : goal.decreases-loop-inverses
decreases-loop-inverses g l = vec_len l.inverses
