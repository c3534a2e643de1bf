use Rattle.std.proofs.Common.{◌≡◌, ◌≤◌}
use Rattle.book_workers.specs.Accounts.{saw}
use Rattle.book_workers.specs.Seats.{account, IsSeatAt}
use Rattle.book_workers.proofs.intake.Intake.reserve.Given as goal

abbrev pub invariant-loop : goal.invariant-loop
invariant-loop g l = record {
  can_next : (goal.iterator-loop g).can_next l.iterator';
  is_finite : (goal.iterator-loop g).is_finite l.iterator';
  enough : l.fuel ≤ l.expected;
  seat : IsSeatAt l.self.table.shared.table_id l.self.limits l.seat;
  same : account l.seat ≡ saw (account l.initial.seat) (account l.seat).seen;
  falls : (account l.seat).seen ≤ (account l.initial.seat).seen;
}
