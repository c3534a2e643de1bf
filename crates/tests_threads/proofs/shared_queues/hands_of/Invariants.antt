use Rattle.std.proofs.Common.{◌≡◌}
use Rattle.std.specs.List.{All}
use Rattle.lanes.specs.Passes.{IsPassOf}
use Rattle.tests_threads.proofs.shared_queues.hands_of.Given as goal

abbrev pub invariant-loop : goal.invariant-loop
invariant-loop l = IsPassOf l.line l.own × All (λ hand. hand.line.now ≡ l.line) l.hands.items
