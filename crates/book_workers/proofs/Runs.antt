-- Runs that are handed back.
use Rattle.std.proofs.Common.{◌≡◌, List, [], ◌∷◌, ◌++◌, sym, subst}
use Rattle.std.proofs.lemmas.List.Elements.{All-push}
use Rattle.spec_execution.specs.Configuration.{Setting}
use Rattle.spec_execution.specs.Run.{ContractCall}
use Rattle.book_workers.specs.declared.attempt.CommittedRun.{CommittedRun}
use Rattle.book_workers.specs.CommittedRuns.{IsCommitted, AreAllRuns}

pub one_more_run : {A : Type 0} (setting : Setting) (calls : List ContractCall) (xs zs : List (CommittedRun A)) (x : CommittedRun A) → zs ≡ xs ++ x ∷ [] → AreAllRuns setting calls xs → IsCommitted setting calls x → AreAllRuns setting calls zs
one_more_run setting calls xs zs x is all one = subst (AreAllRuns setting calls) (sym is) (All-push (IsCommitted setting calls) xs x all one)
