use Rattle.std.proofs.Common.{◌≡◌, subst, arith}
use Rattle.validator.specs.PositionRuns.{IsRunAt}
use Rattle.validator.proofs.workers.run_at.Goals as goal

pub returns : goal.returns
returns g c =
    let made = c.in-Some.made.now in
    let is : made.position ≡ c.args.position = omega (arith, c.if-made-position.false) in
    subst (λ p. IsRunAt c.args.job.now p made.finished) is c.in-Some.ensures
