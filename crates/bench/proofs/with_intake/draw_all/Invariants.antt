use Rattle.book_workers.specs.Intakes.{IsSeatOf}
use Rattle.bench.proofs.with_intake.draw_all.Given as goal

abbrev pub invariant-loop : goal.invariant-loop
invariant-loop g l =
    (goal.iterator-loop g).can_next l.iterator' × (goal.iterator-loop g).is_finite l.iterator' × IsSeatOf l.intake l.seat
