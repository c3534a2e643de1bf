-- Runs, apart from the locks that they asked for.
use Rattle.std.proofs.Common.{◌≡◌, ℕ, List, [], ◌∷◌, ◌++◌, Option, Some, None, slice_get, All, IfSome, length, map, sym, ap, ◌∙◌, subst}
use Rattle.std.specs.Prelude.{slice_set}
use Rattle.std.specs.List.{AllByRecursion}
use Rattle.std.proofs.lemmas.List.Elements.{All-from_recursion, All-pop, All-push, All-set}
use Rattle.std.proofs.lemmas.List.{length-map}
use Rattle.spec_ledger.specs.Book.{CommittedCall}
use Rattle.spec_ledger.specs.Modes.{Modes, touched}
use Rattle.spec_execution.specs.Configuration.{Setting}
use Rattle.spec_execution.specs.Run.{ContractCall}
use Rattle.interp.specs.FinishedCalls.{Played}
use Rattle.publish.specs.Publication.{Publication}
use Rattle.publish.specs.declared.adopting.CallRun.{CallRun}
use Rattle.publish.specs.Adoption.{IsMade, AreMade}
use Rattle.book_workers.specs.declared.attempt.CommittedRun.{CommittedRun}
use Rattle.book_workers.specs.CommittedRuns.{IsCommitted, AreAllRuns}
use Rattle.miner.specs.CallRuns.{IsMadeRun}

pub made_push : {A : Type 0} (setting : Setting) (calls : List ContractCall) (rs : List (CallRun A)) (ms : List Modes) (r : CallRun A) (m : Modes) → AreMade setting calls rs ms → IsMade setting calls r m → AreMade setting calls (rs ++ r ∷ []) (ms ++ m ∷ [])
made_push setting calls [] [] r m made one = (one, tt)
made_push setting calls [] (m' ∷ ms) r m made one = absurd made
made_push setting calls (r' ∷ rs) [] r m made one = absurd made
made_push setting calls (r' ∷ rs) (m' ∷ ms) r m made one = (made.0, made_push setting calls rs ms r m made.1 one)

runs_made : {A : Type 0} (setting : Setting) (calls : List ContractCall) (rs : List (CallRun A)) (ms : List Modes) → AreMade setting calls rs ms → AllByRecursion (IsMadeRun setting calls) rs
runs_made setting calls [] ms made = tt
runs_made setting calls (r ∷ rs) [] made = absurd made
runs_made setting calls (r ∷ rs) (m ∷ ms) made = (record { lent = made.0.lent; call_is = made.0.call_is }, runs_made setting calls rs ms made.1)

-- by an order of these calls over these contracts
pub made_for : {A : Type 0} (setting : Setting) (calls : List ContractCall) (rs : List (CallRun A)) (ms : List Modes) (p : Publication) → AreMade setting calls rs ms → p.setting ≡ setting → p.calls ≡ calls → All (IsMadeRun p.setting p.calls) rs
made_for setting calls rs ms p made lent same =
    subst (λ cs. All (IsMadeRun cs p.calls) rs) (sym lent) (subst (λ ks. All (IsMadeRun setting ks) rs) (sym same) (All-from_recursion (IsMadeRun setting calls) rs (runs_made setting calls rs ms made)))

pub made_more : {A : Type 0} (setting : Setting) (calls : List ContractCall) (rs rs' : List (CallRun A)) (ms ms' : List Modes) (r : CallRun A) (m : Modes) → rs' ≡ rs ++ r ∷ [] → ms' ≡ ms ++ m ∷ [] → AreMade setting calls rs ms → IsMade setting calls r m → AreMade setting calls rs' ms'
made_more setting calls rs rs' ms ms' r m rs_are ms_are made one =
    subst (λ xs. AreMade setting calls xs ms') (sym rs_are) (subst (λ xs. AreMade setting calls (rs ++ r ∷ []) xs) (sym ms_are) (made_push setting calls rs ms r m made one))

pub committed_made : {A : Type 0} (setting : Setting) (calls : List ContractCall) (c : CommittedRun A) (r : CallRun A) (m : Modes) → IsCommitted setting calls c → r.call ≡ c.call → r.finished ≡ c.finished → m ≡ c.touched → IsMade setting calls r m
committed_made setting calls c r m is call finished locks = record {
  lent = ap (λ (f : Played). f.setting) finished ∙ is.run.lent;
  call_is = ap (slice_get calls) call ∙ is.run.call_is ∙ ap (λ (f : Played). Some f.call) (sym finished);
  locks_are = locks ∙ is.locks ∙ ap (λ (f : Played). touched f.trace) (sym finished);
}

-- ---- runs at their places

module _ {A : Type 0} (setting : Setting) (calls : List ContractCall) where
  abbrev pub IsPlace : Option (CommittedRun A) → Type 0
  IsPlace place = IfSome place (IsCommitted setting calls)

  pub no_run_more : (xs zs : List (Option (CommittedRun A))) → zs ≡ xs ++ None ∷ [] → All IsPlace xs → All IsPlace zs
  no_run_more xs zs is all = subst (All IsPlace) (sym is) (All-push IsPlace xs None all tt)

  pub runs_left : (xs ys : List (CommittedRun A)) (run : CommittedRun A) → xs ≡ ys ++ run ∷ [] → AreAllRuns setting calls xs → AreAllRuns setting calls ys
  runs_left xs ys run is all = (All-pop (IsCommitted setting calls) xs ys (Some run) is all).0

  pub run_placed : (xs ys : List (CommittedRun A)) (run : CommittedRun A) (places : List (Option (CommittedRun A))) (i : ℕ) → xs ≡ ys ++ run ∷ [] → AreAllRuns setting calls xs → All IsPlace places → All IsPlace (slice_set places i (Some run))
  run_placed xs ys run places i is all placed = All-set IsPlace places i (Some run) (All-pop (IsCommitted setting calls) xs ys (Some run) is all).1 placed

  pub places_left : (xs ys : List (Option (CommittedRun A))) (place : Option (CommittedRun A)) → xs ≡ ys ++ place ∷ [] → All IsPlace xs → All IsPlace ys
  places_left xs ys place is all = (All-pop IsPlace xs ys (Some place) is all).0

  pub run_at : (xs ys : List (Option (CommittedRun A))) (place : Option (CommittedRun A)) (run : CommittedRun A) → xs ≡ ys ++ place ∷ [] → place ≡ Some run → All IsPlace xs → IsCommitted setting calls run
  run_at xs ys place run is there all = subst IsPlace there (All-pop IsPlace xs ys (Some place) is all).1

-- ---- what is adopted

pub adopted_length : (es : List CommittedCall) (o : Option Publication) (q p : Publication) → IfSome o (λ x. x ≡ q) → o ≡ Some p → q.order ≡ map (λ (e : CommittedCall). e.call) es → length p.order ≡ length es
adopted_length es o q p told is order = ap (λ (x : Publication). length x.order) (subst (λ x. IfSome x (λ y. y ≡ q)) is told) ∙ ap (λ xs. length xs) order ∙ length-map es (λ (e : CommittedCall). e.call)
