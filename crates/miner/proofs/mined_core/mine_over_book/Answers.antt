use Rattle.miner.proofs.Seats.{last_seat}
use Rattle.miner.proofs.mined_core.mine_over_book.Goals as goal

pub run_workers-requires-clause-seats : goal.run_workers-requires-clause-seats
run_workers-requires-clause-seats g c κs within = (last_seat c.in-Ok.intake c.in-Ok.seats.items c.pop.new.self.items c.in-Some.own c.in-Some.ensures.items c.in-Ok.ensures.seats.1).0

pub draw_rest-requires-clause-seat : goal.draw_rest-requires-clause-seat
draw_rest-requires-clause-seat g c = (last_seat c.in-Ok.intake c.in-Ok.seats.items c.pop.new.self.items c.in-Some.own c.in-Some.ensures.items c.in-Ok.ensures.seats.1).1
