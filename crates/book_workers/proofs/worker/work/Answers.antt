use Rattle.std.proofs.Common.{◌≡◌, sym, subst}
use Rattle.spec_ledger.specs.declared.Version.TheVariants.{Two}
use Rattle.interp.specs.Callee.{setting_view}
use Rattle.book_workers.specs.CommittedRuns.{AreAllRuns}
use Rattle.book_workers.proofs.worker.work.Goals as goal
use Rattle.book_workers.proofs.worker.work.Goals.{else-loop-test, then-loop-test+in_default, then-loop-test+in-Some+else-not-reserve+in_ok-work_on+then-branch}

pub returns : goal.returns
returns g c =
    let setting = setting_view Two c.args.job.now.contracts.now in
    let calls = c.args.job.now.calls.now in
    elim c.loop-test.branch [
      | else-loop-test w ↦
          let is : c.loop-test.worked.committed.items ≡ c.loop.worked.committed.items = λ i. (w.worked-is i).committed.items in
          subst (AreAllRuns setting calls) (sym is) c.loop.invariant.runs
      | then-loop-test+in_default w ↦
          let is : c.loop-test.worked.committed.items ≡ c.loop.worked.committed.items = λ i. (w.worked-is i).committed.items in
          subst (AreAllRuns setting calls) (sym is) c.loop.invariant.runs
      | then-loop-test+in-Some+else-not-reserve+in_ok-work_on+then-branch w ↦
          let is : c.loop-test.worked.committed.items ≡ w.work_on.new.worked.committed.items = λ i. (w.worked-is i).committed.items in
          subst (AreAllRuns setting calls) (sym is) w.in_ok-work_on.ensures
    ]
