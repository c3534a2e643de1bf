use Rattle.std.proofs.Common.{rules}
use Rattle.book_workers.proofs.Keeps.{asks}
use Rattle.book_workers.proofs.intake.Intake.reserve.Goals as goal

pub compare_exchange_with-found-requires : goal.compare_exchange_with-found-requires
compare_exchange_with-found-requires g c = (search rules, search rules, asks _ _ _ _ _ _ _ (search rules) (search rules))
