use Rattle.std.proofs.Common.{ℤ, ap, w64}
use Rattle.std.proofs.lemmas.Int.{to_z-of_z}
use Rattle.interp.specs.Run.{restored_run}
use Rattle.interp.proofs.levels.restore.Goals as goal

pub returns : goal.returns
returns g c = ap (λ (answer : ℤ). record (restored_run c.args.run.now c.args.level) { answer = answer }) (to_z-of_z w64 c.args.level.answer (search (c.well_formed.1.0)))
