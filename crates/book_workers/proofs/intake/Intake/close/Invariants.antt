use Rattle.std.proofs.Common.{◌≡◌, ◌+◌, ◌<◌, ◌++◌, ◌||◌, [], length, vec_len}
use Rattle.std.specs.List.{All}
use Rattle.book_workers.specs.Seats.{IsSeatAt, drawn_by, granted_to, refused_to, is_any_done}
use Rattle.book_workers.proofs.intake.Intake.close.Given as goal

abbrev pub invariant-loop-seat : goal.invariant-loop-seat
invariant-loop-seat g l = record {
  table : l.whole.table_id ≡ l.table.shared.table_id;
  no_slot : l.whole.me.1 ≡ [];
  limits : l.whole.me.0.limits ≡ l.table.shared.key;
  seats : All (IsSeatAt l.table.shared.table_id l.table.shared.key) l.seats.items;
  some_part : 0 < l.whole.me.0.parts;
  parts : length l.seats.items + l.whole.me.0.parts ≡ length l.fn.seats.items;
  drawn : drawn_by l.fn.seats.items ≡ drawn_by l.seats.items ++ l.whole.me.0.drawn;
  granted : granted_to l.fn.seats.items ≡ granted_to l.seats.items ++ l.whole.me.0.granted;
  refused : refused_to l.fn.seats.items ≡ refused_to l.seats.items ++ l.whole.me.0.refused;
  done : is_any_done l.fn.seats.items ≡ (is_any_done l.seats.items || l.whole.me.0.is_done);
}

abbrev pub decreases-loop-seat : goal.decreases-loop-seat
decreases-loop-seat g l = vec_len l.seats
