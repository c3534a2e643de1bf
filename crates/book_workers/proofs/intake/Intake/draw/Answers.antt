use Rattle.std.proofs.Common.{rules}
use Rattle.book_workers.proofs.Keeps.{looks, takes}
use Rattle.book_workers.proofs.intake.Intake.draw.Goals as goal

pub load-requires : goal.load-requires
load-requires g c = (search rules, search rules, looks _ _ _ _ (search rules) (search rules))

pub fetch_add-number-requires : goal.fetch_add-number-requires
fetch_add-number-requires g c = (search rules, search rules, takes _ _ _ _ (search rules) (search rules) (search rules))
