-- What one level does, seen from the whole.
use Rattle.std.proofs.Common.{◌≡◌, ℕ, ◌+◌, ◌≤◌, List, [], ◌∷◌, ◌++◌, refl, ap, sym, subst, arith, add-zero, append-nil}
use Rattle.wtypes.specs.declared.Value.{Value}
use Rattle.wtypes.specs.declared.TrapCode.{TrapCode}
use Rattle.spec_ledger.specs.declared.Op.{Op}
use Rattle.spec_ledger.specs.declared.Reply.{Reply}
use Rattle.spec_ledger.specs.declared.TraceStep.{TraceStep}
use Rattle.spec_ledger.specs.declared.TraceStep.TheVariants.{Did}
use Rattle.spec_ledger.specs.declared.Outcome.{Outcome}
use Rattle.spec_ledger.specs.declared.Outcome.TheVariants.{Returned, Trapped, OutOfFuel}
use Rattle.spec_execution.specs.Configuration.{Setting, Contract, State, Seq, Config, Running, Trap}
use Rattle.spec_execution.specs.Reduction.{Of, Next, Goes, Traps, Asks, Branches, Returns, Ended, Stuck}
use Rattle.spec_execution.specs.Run.{next, IsCharged, IsStuck, IsReply, Reduces, goes, traps, result_of}
use Rattle.spec_execution.specs.Turns as one
use Rattle.spec_execution.specs.Levels.{Level, Levels, On, Nowhere, alone, by_next, move, IsChargedMove, Reached, moved, replied, Ends, over, exhausted, IsRun, IsSafe}
use Rattle.spec_execution.specs.CallStates.{FreeMoves, none, one_more, Rests, to_come, ended}

-- the level with another configuration, among the same ones
abbrev pub at : Level → Config → Level
at l x = record { contract = l.contract; config = x; answer = l.answer }

abbrev pub among : Level → List Level → Config → Levels
among l outer x = record { inner = at l x; outer = outer }

module _ (setting : Setting) (l : Level) (outer : List Level) where
  pub lifted : (x y : Config) (n : ℕ) → Reduces l.contract x n y → move setting (among l outer x) ≡ On n [] (among l outer y)
  lifted x y n (goes s q charge s' q' e) = ap (by_next setting (at l (Running s q)) outer s) e
  lifted x y n (traps s q charge t e) = ap (by_next setting (at l (Running s q)) outer s) e

  pub frees_lifted : (x y : Config) → one.Frees l.contract x y → FreeMoves setting (among l outer x) [] (among l outer y)
  frees_lifted x y (one.none a) = none (among l outer a)
  frees_lifted x y (one.one_more a b d h f) = one_more (among l outer a) (among l outer b) (among l outer d) [] [] (lifted a b 0 h) (frees_lifted b d f)

  nowhere : (s : State) (q : Seq) (x : Next) → IsStuck x → by_next setting (at l (Running s q)) outer s x ≡ Nowhere
  nowhere s q (Goes charge s' q') h = absurd h
  nowhere s q (Traps charge t) h = absurd h
  nowhere s q (Asks w go) h = absurd h
  nowhere s q (Branches charge k vs) h = refl
  nowhere s q (Returns charge vs) h = refl
  nowhere s q (Ended vs) h = absurd h
  nowhere s q Stuck h = refl

  charged : (s : State) (q : Seq) (x : Next) → IsCharged x → IsChargedMove (by_next setting (at l (Running s q)) outer s x)
  charged s q (Goes charge s' q') h = h
  charged s q (Traps charge t) h = h
  charged s q (Asks w go) h = absurd h
  charged s q (Branches charge k vs) h = absurd h
  charged s q (Returns charge vs) h = absurd h
  charged s q (Ended vs) h = absurd h
  charged s q Stuck h = absurd h

  pub charged_lifted : (s : State) (q : Seq) → IsCharged (next l.contract s q) → IsChargedMove (move setting (among l outer (Running s q)))
  charged_lifted s q h = charged s q (next l.contract s q) h

  -- a run that has come to a configuration of this level comes on by its reductions
  module _ (start : Levels) (limit : ℕ) where
    pub reached_reduced : (trace : List TraceStep) (used : ℕ) (x y : Config) (n : ℕ) → Reached setting start limit trace used (among l outer x) → Reduces l.contract x n y → used + n ≤ limit → Reached setting start limit trace (used + n) (among l outer y)
    reached_reduced trace used x y n r h le = subst (λ t. Reached setting start limit t (used + n) (among l outer y)) (append-nil trace) (moved trace used (among l outer x) n [] (among l outer y) r (lifted x y n h) le)

    pub reached_by_frees : (trace : List TraceStep) (used : ℕ) (x y : Config) → Reached setting start limit trace used (among l outer x) → used ≤ limit → one.Frees l.contract x y → Reached setting start limit trace used (among l outer y)
    reached_by_frees trace used x y r le (one.none a) = r
    reached_by_frees trace used x y r le (one.one_more a b d h f) =
        reached_by_frees trace used b d (subst (λ n. Reached setting start limit trace n (among l outer b)) (add-zero used) (reached_reduced trace used a b 0 r h (omega arith))) le f

    -- and by the host's reply
    pub reached_replied : (trace : List TraceStep) (used : ℕ) (s : State) (q : Seq) (op : Op) (go : Reply → Seq) (r : Reply) → Reached setting start limit trace used (among l outer (Running s q)) → next l.contract s q ≡ Asks (Of op) go → IsReply op r → Reached setting start limit (trace ++ Did op r ∷ []) used (among l outer (Running s (go r)))
    reached_replied trace used s q op go r reach e is =
        replied trace used (among l outer (Running s q)) op (λ (r : Reply). among l outer (Running s (go r))) r reach (ap (by_next setting (at l (Running s q)) outer s) e) is

    -- what the machine's proofs ask of safety: the innermost level is not stuck
    pub not_stuck : IsSafe setting start limit → (trace : List TraceStep) (used : ℕ) (s : State) (q : Seq) → Reached setting start limit trace used (among l outer (Running s q)) → IsStuck (next l.contract s q) → ⊥
    not_stuck safe trace used s q r h = safe trace used _ r (nowhere s q (next l.contract s q) h)

-- what a level does that stands alone
module _ (setting : Setting) (c : Contract) where
  pub ends_returned : (limit used : ℕ) (s : State) (q : Seq) (vs : List Value) → next c s q ≡ Ended vs → Ends setting limit used (alone c (Running s q)) (Returned (result_of vs)) []
  ends_returned limit used s q vs e = over used (alone c (Running s q)) (Returned (result_of vs)) (ap (by_next setting (alone c (Running s q)).inner [] s) e)

  pub ends_trapped : (limit used : ℕ) (s : State) (t : TrapCode) → Ends setting limit used (alone c (Trap s t)) (Trapped t) []
  ends_trapped limit used s t = over used (alone c (Trap s t)) (Trapped t) refl

  pub ends_exhausted : (limit : ℕ) (s : State) (q : Seq) → IsCharged (next c s q) → Ends setting limit limit (alone c (Running s q)) OutOfFuel []
  ends_exhausted limit s q h = exhausted (alone c (Running s q)) (charged_lifted setting (alone c (Running s q)).inner [] s q h)

  pub rests : (x : Config) → one.IsAtRest c x → Rests setting (alone c x)
  rests x (one.to_come s q h) = to_come (alone c (Running s q)) (charged_lifted setting (alone c (Running s q)).inner [] s q h)
  rests x (one.ended s q vs e) = ended (alone c (Running s q)) (Returned (result_of vs)) (ap (by_next setting (alone c (Running s q)).inner [] s) e)
  rests x (one.by_trap s t) = ended (alone c (Trap s t)) (Trapped t) refl

  -- a run that is at its end, with no level left to close
  pub is_run : (start : Levels) (limit : ℕ) (trace : List TraceStep) (used : ℕ) (x : Levels) (o : Outcome) → Reached setting start limit trace used x → Ends setting limit used x o [] → IsRun setting start limit trace o used
  is_run start limit trace used x o r e = record { before = trace; last = x; marks = []; reached = r; ends = e; trace_is = sym (append-nil trace) }
