use Rattle.std.proofs.Common.{◌≡◌, IfSome, sym, subst}
use Rattle.validator.specs.PositionRuns.{AreMade, IsMade}
use Rattle.validator.proofs.Runs.{one_more_made}
use Rattle.validator.proofs.workers.work_on.Goals as goal
use Rattle.validator.proofs.workers.work_on.Goals.{in-Some+in_ok-push, in_default}

pub returns : goal.returns
returns g c =
    let job = c.args.job.now in
    elim c.match-run.branch [
      | in-Some+in_ok-push w ↦
          let is : c.match-run.made.items ≡ w.push.new.self.items = λ i. (w.made-is i).items in
          subst (AreMade job) (sym is)
          (one_more_made job c.args.made.now.items w.push.new.self.items w.in-Some.run' w.in_ok-push.ensures.items c.requires.made (subst (λ o. IfSome o (IsMade job)) w.in-Some.is c.in_ok-run.ensures))
      | in_default w ↦
          let is : c.match-run.made.items ≡ c.args.made.now.items = λ i. (w.made-is i).items in
          subst (AreMade job) (sym is) c.requires.made
    ]
