-- A call of linked contracts has one execution, and calls in an order have one serial execution.
use Rattle.std.proofs.Common.{◌≡◌, ℕ, zero, suc, ◌<◌, List, [], ◌∷◌, refl, sym, ◌∙◌, subst, arith, Some, length, slice_get}
use Rattle.std.proofs.lemmas.List.Elements.{All-head, All-tail}
use Rattle.spec_ledger.specs.declared.Outcome.TheVariants.{Rejected}
use Rattle.spec_ledger.specs.declared.Receipt.{Receipt}
use Rattle.spec_ledger.specs.Cells.{Cells}
use Rattle.spec_ledger.specs.Modes.{Modes, touched}
use Rattle.spec_execution.specs.Configuration.{Setting}
use Rattle.spec_execution.specs.Run.{ContractCall, Opening, Refused, Opens, opening}
use Rattle.spec_execution.specs.Levels.{first_level, refused, ran, asks_in}
use Rattle.spec_execution.specs.Exec.{Executes}
use Rattle.spec_execution.specs.Serial.{CallResult, Serial}
use Rattle.spec_execution.specs.Unique.{ExecutesOneWay}
use Rattle.laws_soundness.specs.Laws.{AreLinked, DeployedCallsAreSafe}
use Rattle.laws_soundness.specs.Once.{AreNumbersOf, ExecutesOnce, RunsSerially}
use Rattle.laws_soundness.proofs.Running.{run_found}

-- ---- one execution

module _ (safe : DeployedCallsAreSafe) (one_way : ExecutesOneWay) (setting : Setting) (linked : AreLinked setting.contracts) where
  module _ (call : ContractCall) (cells : Cells) where
    once : (later : Cells) (r : Receipt) (m : Modes) → Executes setting call cells later r m → ExecutesOnce setting call cells
    once later r m e = record { later = later; receipt = r; locks = m; executes = e; only = λ later' r' m' e'. one_way setting call cells later' later r' r m' m e' e }

    by_opening : (x : Opening) → opening setting call ≡ x → ExecutesOnce setting call cells
    by_opening (Refused code) e =
        once cells (record { outcome = Rejected code; used = 0; asks = 0 }) (touched []) (record { trace = []; run = refused code e; asks = refl; replies = tt; later_is = refl; locks_are = refl })
    by_opening (Opens c func) e =
        let found = run_found setting (first_level c func call.args) call.fuel cells (safe setting call c func linked e) in
        once _ (record { outcome = found.outcome; used = found.fuel; asks = asks_in found.trace }) (touched found.trace)
        (record { trace = found.trace; run = ran c func found.trace found.outcome found.fuel e found.run; asks = refl; replies = found.replies; later_is = refl; locks_are = refl })

    pub executes_once : ExecutesOnce setting call cells
    executes_once = by_opening (opening setting call) refl

  -- ---- one serial execution

  there : (calls : List ContractCall) (n : ℕ) → n < length calls → (call : ContractCall) × (slice_get calls n ≡ Some call)
  there [] n lt = absurd (omega (arith, lt))
  there (x ∷ calls) zero lt = (x, refl)
  there (x ∷ calls) (suc n) lt = there calls n (omega (arith, lt))

  module _ (calls : List ContractCall) where
    more : (n : ℕ) (order : List ℕ) (cells : Cells) (call : ContractCall) → slice_get calls n ≡ Some call → (e : ExecutesOnce setting call cells) → RunsSerially setting calls order e.later → RunsSerially setting calls (n ∷ order) cells
    more n order cells call at e rest = record {
      ran = record { receipt = e.receipt; touched = e.locks } ∷ rest.ran;
      last = rest.last;
      serial = (call, e.later, at, e.executes, rest.serial);
      only = alone;
    }
      where
        alone : (rs : List CallResult) (last : Cells) → Serial setting calls (n ∷ order) cells rs last → (rs ≡ record { receipt = e.receipt; touched = e.locks } ∷ rest.ran) × (last ≡ rest.last)
        alone [] last h = absurd h
        alone (r ∷ rs) last h =
            let same : h.0 ≡ call = (let both : Some (h.0) ≡ Some call = sym h.2 ∙ at in cc) in
            let here = e.only h.1 r.receipt r.touched (subst (λ (k : ContractCall). Executes setting k cells h.1 r.receipt r.touched) same h.3) in
            let others = rest.only rs last (subst (λ (x : Cells). Serial setting calls order x rs last) here.0 h.4) in
            (λ i. record { receipt = here.1 i; touched = here.2 i } ∷ others.0 i, others.1)

    nothing_runs : (cells : Cells) (rs : List CallResult) (last : Cells) → Serial setting calls [] cells rs last → (rs ≡ []) × (last ≡ cells)
    nothing_runs cells [] last h = (refl, h)
    nothing_runs cells (r ∷ rs) last h = absurd h

    pub runs_serially : (order : List ℕ) (cells : Cells) → AreNumbersOf calls order → RunsSerially setting calls order cells
    runs_serially [] cells h = record { ran = []; last = cells; serial = refl; only = nothing_runs cells }
    runs_serially (n ∷ order) cells h =
        let (call, at) = there calls n (All-head (λ n. n < length calls) n order h) in
        let e = executes_once call cells in
        more n order cells call at e (runs_serially order e.later (All-tail (λ n. n < length calls) n order h))
