use Rattle.std.proofs.Common.{IfSome, subst}
use Rattle.book_workers.specs.CommittedRuns.{IsCommitted}
use Rattle.spec_ledger.specs.declared.Version.TheVariants.{Two}
use Rattle.interp.specs.Callee.{setting_view}
use Rattle.book_workers.proofs.Runs.{one_more_run}
use Rattle.book_workers.proofs.worker.work_on.Goals as goal

pub returns-in_ok-push-in-Some : goal.returns-in_ok-push-in-Some
returns-in_ok-push-in-Some g c = one_more_run (setting_view Two c.args.job.now.contracts.now) c.args.job.now.calls.now c.args.worked.now.committed.items c.push.new.self.items c.in-Some.committed c.in_ok-push-in-Some.ensures.items c.requires.runs (subst (λ o. IfSome o (IsCommitted (setting_view Two c.args.job.now.contracts.now) c.args.job.now.calls.now)) c.in-Some.is c.in_ok-run.ensures)
