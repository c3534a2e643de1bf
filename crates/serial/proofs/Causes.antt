-- A call that is executed ends as a call can: what does not start has the code of a cause.
use Rattle.std.proofs.Common.{◌≡◌, ℕ, ℤ, List, [], ◌∷◌, Some, None, length, slice_get, refl, subst, inl, inr, arith}
use Rattle.std.specs.Prelude.{Bool, true, false, Option, ◌==◌, if◌then◌else◌}
use Rattle.std.proofs.lemmas.List.Elements.{All-cons, All-nil}
use Rattle.wtypes.specs.declared.Value.{Value}
use Rattle.wtypes.specs.declared.TrapCode.{TrapCode}
use Rattle.spec_modules.specs.Syntax.{ExportDesc, ExportFunc, ExportTable, ExportMemory, ExportGlobal}
use Rattle.spec_ledger.specs.declared.Outcome.{Outcome}
use Rattle.spec_ledger.specs.declared.Outcome.TheVariants.{Rejected}
use Rattle.spec_ledger.specs.declared.Receipt.{Receipt}
use Rattle.spec_ledger.specs.declared.Reply.{Reply}
use Rattle.spec_ledger.specs.declared.TraceStep.{TraceStep}
use Rattle.spec_ledger.specs.declared.TraceStep.TheVariants.{Kept, Dropped}
use Rattle.spec_ledger.specs.declared.Version.{Version}
use Rattle.spec_ledger.specs.Cells.{Cells}
use Rattle.spec_ledger.specs.Modes.{Modes}
use Rattle.spec_execution.specs.Configuration.{Setting, Deployed, Contract, Function, Hosted, Defined, function_at, Seq, State, Config, Running, Trap}
use Rattle.spec_execution.specs.Reduction.{HostEffect, Of, Ask, Answer, Next, Goes, Traps, Asks, Branches, Returns, Ended, Stuck}
use Rattle.spec_execution.specs.Run.{next, ContractCall, Opening, Refused, Opens, by_wrong, by_function, by_export, by_contract, exported, wrong_argument}
use Rattle.spec_execution.specs.Levels.{Level, Levels, Move, Over, back_by, back_to, returned, fallen, signed_of, no_answer, trap_status, entering, asked, wished, by_next, by_config, Ends, over, exhausted, RunsWith, refused, ran}
use Rattle.spec_execution.specs.Serial.{Serial}
use Rattle.serial.specs.Positions.{results_of}
use Rattle.serial.specs.OrderOutcomes.{IsPossible, ArePossible}

abbrev HasCause : Opening → Type 0
HasCause (Refused code) = IsPossible (Rejected code)
HasCause (Opens c func) = Unit {0}

either : (b : Bool) (x y : Opening) → HasCause x → HasCause y → HasCause (if b then x else y)
either true x y h k = h
either false x y h k = k

wrong_has_cause : (c : Contract) (f : ℕ) (o : Option ℕ) → HasCause (by_wrong c f o)
wrong_has_cause c f None = tt
wrong_has_cause c f (Some n) = inr (inr (inr (inl refl)))

function_has_cause : (c : Contract) (f : ℕ) (args : List Value) (o : Option Function) → HasCause (by_function c f args o)
function_has_cause c f args None = inr (inl refl)
function_has_cause c f args (Some (Hosted h)) = inr (inl refl)
function_has_cause c f args (Some (Defined t g)) = either (length args == length t.params) (by_wrong c f (wrong_argument t.params args)) (Refused 3) (wrong_has_cause c f (wrong_argument t.params args)) (inr (inr (inl refl)))

export_has_cause : (c : Contract) (args : List Value) (o : Option ExportDesc) → HasCause (by_export c args o)
export_has_cause c args None = inl refl
export_has_cause c args (Some (ExportFunc f)) = function_has_cause c f args (function_at c.deployed f)
export_has_cause c args (Some (ExportTable n)) = inr (inl refl)
export_has_cause c args (Some (ExportMemory n)) = inr (inl refl)
export_has_cause c args (Some (ExportGlobal n)) = inr (inl refl)

contract_has_cause : (version : Version) (call : ContractCall) (o : Option Deployed) → HasCause (by_contract version call o)
contract_has_cause version call None = inr (inr (inr (inr refl)))
contract_has_cause version call (Some d) = export_has_cause (record { number = call.contract; deployed = d; version = version }) call.args (exported call.entry d.tree.exports)

-- where a move is the end of a run, its outcome is possible
abbrev MayEnd : Move → Type 0
MayEnd (Over o) = IsPossible o
MayEnd _ = Unit {0}

module _ (l : Level) (outer : List Level) where
  back_by_may_end : (s : State) (status : ℕ) (answer : ℤ) (mark : TraceStep) (x : Next) → MayEnd (back_by l outer s status answer mark x)
  back_by_may_end s status answer mark (Goes charge s' q) = tt
  back_by_may_end s status answer mark (Traps charge t) = tt
  back_by_may_end s status answer mark (Asks (Of op) go) = tt
  back_by_may_end s status answer mark (Asks (Ask n e x) go) = tt
  back_by_may_end s status answer mark (Asks Answer go) = tt
  back_by_may_end s status answer mark (Branches charge k vs) = tt
  back_by_may_end s status answer mark (Returns charge vs) = tt
  back_by_may_end s status answer mark (Ended vs) = tt
  back_by_may_end s status answer mark Stuck = tt

  back_to_may_end : (status : ℕ) (answer : ℤ) (mark : TraceStep) (x : Config) → MayEnd (back_to l outer status answer mark x)
  back_to_may_end status answer mark (Running s q) = back_by_may_end s status answer mark (next l.contract s q)
  back_to_may_end status answer mark (Trap s t) = tt

  entering_may_end : (s : State) (go : Reply → Seq) (x : ℤ) (o : Opening) → MayEnd (entering l outer s go x o)
  entering_may_end s go x (Opens c f) = tt
  entering_may_end s go x (Refused status) = tt

returned_may_end : (vs : List Value) (outer : List Level) → MayEnd (returned vs outer)
returned_may_end vs [] = tt
returned_may_end [] (l ∷ outer) = tt
returned_may_end (v ∷ []) (l ∷ outer) = back_to_may_end l outer 0 (signed_of v) Kept l.config
returned_may_end (v ∷ w ∷ vs) (l ∷ outer) = tt

fallen_may_end : (t : TrapCode) (outer : List Level) → MayEnd (fallen t outer)
fallen_may_end t [] = tt
fallen_may_end t (l ∷ outer) = back_to_may_end l outer (trap_status t) no_answer Dropped l.config

module _ (setting : Setting) where
  wished_may_end : (l : Level) (outer : List Level) (s : State) (w : HostEffect) (go : Reply → Seq) → MayEnd (wished setting l outer s w go)
  wished_may_end l outer s (Of op) go = tt
  wished_may_end l outer s (Ask n e x) go = entering_may_end l outer s go x (asked setting (length outer) n e)
  wished_may_end l outer s Answer go = tt

  next_may_end : (l : Level) (outer : List Level) (s : State) (x : Next) → MayEnd (by_next setting l outer s x)
  next_may_end l outer s (Goes charge s' q) = tt
  next_may_end l outer s (Traps charge t) = tt
  next_may_end l outer s (Asks w go) = wished_may_end l outer s w go
  next_may_end l outer s (Branches charge k vs) = tt
  next_may_end l outer s (Returns charge vs) = tt
  next_may_end l outer s (Ended vs) = returned_may_end vs outer
  next_may_end l outer s Stuck = tt

  config_may_end : (l : Level) (outer : List Level) (x : Config) → MayEnd (by_config setting l outer x)
  config_may_end l outer (Running s q) = next_may_end l outer s (next l.contract s q)
  config_may_end l outer (Trap s t) = fallen_may_end t outer

  end_is_possible : (limit used : ℕ) (last : Levels) (o : Outcome) (marks : List TraceStep) → Ends setting limit used last o marks → IsPossible o
  end_is_possible limit used last o marks (over u c p is) = subst MayEnd is (config_may_end c.inner c.outer c.inner.config)
  end_is_possible limit used last o marks (exhausted c h) = tt

run_is_possible : (setting : Setting) (call : ContractCall) (trace : List TraceStep) (o : Outcome) (used : ℕ) → RunsWith setting call trace o used → IsPossible o
run_is_possible setting call trace o used (refused code is) = subst HasCause is (contract_has_cause setting.version call (slice_get setting.contracts call.contract))
run_is_possible setting call trace o used (ran c func t p f is run) = end_is_possible setting call.fuel f run.last p run.marks run.ends

-- the receipts of calls that ran one after another
pub are_possible : (setting : Setting) (calls : List ContractCall) (order : List ℕ) (cells : Cells) (rs : List Receipt) (ms : List Modes) (last : Cells)
    → length rs ≡ length ms → Serial setting calls order cells (results_of rs ms) last → ArePossible rs
are_possible setting calls order cells [] ms last e s = All-nil (λ (r : Receipt). IsPossible r.outcome)
are_possible setting calls order cells (r ∷ rs) [] last e s = absurd (omega (arith, e))
are_possible setting calls [] cells (r ∷ rs) (m ∷ ms) last e s = absurd s
are_possible setting calls (n ∷ order) cells (r ∷ rs) (m ∷ ms) last e s =
    All-cons (λ (x : Receipt). IsPossible x.outcome) r rs (run_is_possible setting s.0 s.3.trace r.outcome r.used s.3.run) (are_possible setting calls order s.1 rs ms last (omega (arith, e)) s.4)
