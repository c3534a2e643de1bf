use Rattle.std.proofs.Common.{◌≡◌, sym, subst}
use Rattle.validator.specs.PositionRuns.{AreMade}
use Rattle.validator.proofs.workers.work_through.Goals as goal
use Rattle.validator.proofs.workers.work_through.Goals.{in-None, in-Some+then-is_over, in-Some+else-is_over+in-Some-find+in_ok-work_on-in-Some-find+then-branch}

pub returns : goal.returns
returns g c =
    let job = c.args.job.now in
    elim c.match-next.branch [
      | in-None w ↦
          let is : c.match-next.made.items ≡ c.loop.made.items = λ i. (w.made-is i).items in
          subst (AreMade job) (sym is) c.loop.invariant
      | in-Some+then-is_over w ↦
          let is : c.match-next.made.items ≡ c.loop.made.items = λ i. (w.made-is i).items in
          subst (AreMade job) (sym is) c.loop.invariant
      | in-Some+else-is_over+in-Some-find+in_ok-work_on-in-Some-find+then-branch w ↦
          let is : c.match-next.made.items ≡ w.work_on.new.made.items = λ i. (w.made-is i).items in
          subst (AreMade job) (sym is) w.in_ok-work_on-in-Some-find.ensures
    ]
