use Rattle.std.proofs.Common.{rules}
use Rattle.book_workers.proofs.Keeps.{peeks}
use Rattle.book_workers.proofs.intake.Intake.left.Goals as goal

pub load-requires : goal.load-requires
load-requires g c = (search rules, search rules, peeks _ _ _ _ (search rules) (search rules))
