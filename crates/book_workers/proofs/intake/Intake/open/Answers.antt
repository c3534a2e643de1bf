use Rattle.std.proofs.Common.{rules}
use Rattle.book_workers.proofs.Cuts.{cuts}
use Rattle.book_workers.proofs.intake.Intake.open.Goals as goal

pub split_seat-seat-requires : goal.split_seat-seat-requires
split_seat-seat-requires g c = (search rules, search rules, cuts _ _ _ (search rules) (search rules))
