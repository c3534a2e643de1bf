use Rattle.std.proofs.Common.{◌≡◌, vec_len, take, drop}
use Rattle.spec_ledger.specs.Book.{back_all}
use Rattle.debugger.proofs.undo.take_back_to.Given as goal

abbrev pub invariant-loop-inverses : goal.invariant-loop-inverses
invariant-loop-inverses g l = record {
  kept : take l.fn.mark l.inverses.items ≡ take l.fn.mark l.fn.inverses.items;
  cells : back_all (drop l.fn.mark l.inverses.items) l.cells.cells ≡ back_all (drop l.fn.mark l.fn.inverses.items) l.fn.cells.cells;
}

abbrev pub decreases-loop-inverses : goal.decreases-loop-inverses
decreases-loop-inverses g l = vec_len l.inverses
