use Rattle.book_workers.specs.Intakes.{IsSeatOf}
use Rattle.miner.proofs.rest.draw_rest.Given as goal

abbrev pub invariant-loop : goal.invariant-loop
invariant-loop g l = IsSeatOf l.intake l.seat
