use Rattle.std.proofs.Common.{◌≡◌, length}
use Rattle.std.specs.List.{All}
use Rattle.book_workers.specs.Intakes.{IsSeatOf}
use Rattle.tests_threads.proofs.intakes.all_answer.Given as goal

abbrev pub invariant-loop-step : goal.invariant-loop-step
invariant-loop-step g l = record {
  seats : All (IsSeatOf l.intake) l.seats.items;
  size : length l.seats.items ≡ length l.fn.seats.items;
}
