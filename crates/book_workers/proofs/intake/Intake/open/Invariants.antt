use Rattle.std.proofs.Common.{◌≡◌, ◌+◌, [], length}
use Rattle.std.specs.List.{All}
use Rattle.book_workers.specs.Accounts.{newcomer}
use Rattle.book_workers.specs.Seats.{IsNewSeatAt}
use Rattle.book_workers.proofs.intake.Intake.open.Given as goal

abbrev pub invariant-loop-number : goal.invariant-loop-number
invariant-loop-number g l = record {
  table : l.first.table_id ≡ l.table.shared.table_id;
  no_slot : l.first.me.1 ≡ [];
  first : l.first.me.0 ≡ newcomer l.limits l.first.me.0.parts;
  parts : l.first.me.0.parts + l._number ≡ l.seats + 1;
  many : length l.all.items + 1 ≡ l._number;
  new : All (IsNewSeatAt l.table.shared.table_id l.limits) l.all.items;
}
