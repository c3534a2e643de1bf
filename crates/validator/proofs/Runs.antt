-- Runs that are handed back.
use Rattle.std.proofs.Common.{◌≡◌, ℕ, List, [], ◌∷◌, ◌++◌, Option, Some, None, IfSome, set, sym, subst}
use Rattle.std.proofs.lemmas.List.Elements.{All-push, All-set}
use Rattle.spec_ledger.specs.declared.Op.{Op}
use Rattle.spec_ledger.specs.declared.Reply.{Reply}
use Rattle.spec_ledger.specs.Cells.{Cells, reply_to}
use Rattle.spec_execution.specs.Run.{IsReply}
use Rattle.spec_execution.proofs.Replies.{is_reply}
use Rattle.validator.specs.declared.job.Job.{Job}
use Rattle.validator.specs.declared.job.PositionRun.{PositionRun}
use Rattle.validator.specs.PositionRuns.{IsMade, AreMade, AreFound}

-- the reply to an operation, where there is one
pub reply_of : (op : Op) (cells : Cells) (o : Option Reply) (r : Reply) → IfSome o (λ x. x ≡ reply_to op cells) → o ≡ Some r → IsReply op r
reply_of op cells o r some is = is_reply op cells r (subst (λ x. IfSome x (λ y. y ≡ reply_to op cells)) is some)

module _ {A P : Type 0} (job : Job A P) where
  pub one_more_made : (xs zs : List (PositionRun A)) (x : PositionRun A) → zs ≡ xs ++ x ∷ [] → AreMade job xs → IsMade job x → AreMade job zs
  one_more_made xs zs x is all one = subst (AreMade job) (sym is) (All-push (IsMade job) xs x all one)

  pub none_yet : (xs zs : List (Option (PositionRun A))) → zs ≡ xs ++ None ∷ [] → AreFound job xs → AreFound job zs
  none_yet xs zs is all = subst (AreFound job) (sym is) (All-push (λ o. IfSome o (IsMade job)) xs None all tt)

  pub one_noted : (xs : List (Option (PositionRun A))) (i : ℕ) (x : PositionRun A) → AreFound job xs → IsMade job x → AreFound job (set xs i (Some x))
  one_noted xs i x all one = All-set (λ o. IfSome o (IsMade job)) xs i (Some x) one all
