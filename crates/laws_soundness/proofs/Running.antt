-- A call of linked contracts has a run over any cells: by the fuel that is left, and then by the weight of the levels.
use Rattle.std.proofs.Common.{◌≡◌, ℕ, zero, suc, ◌+◌, ◌<◌, ◌≤◌, Bool, true, false, nat_le, List, [], ◌∷◌, ◌++◌, refl, sym, subst, arith, append-nil, append_assoc, replicate}
use Rattle.std.proofs.lemmas.Bool.Decides.{nat_tests}
use Rattle.spec_ledger.specs.declared.Op.{Op}
use Rattle.spec_ledger.specs.declared.TraceStep.{TraceStep}
use Rattle.spec_ledger.specs.declared.TraceStep.TheVariants.{Did, Dropped}
use Rattle.spec_ledger.specs.declared.Outcome.{Outcome}
use Rattle.spec_ledger.specs.declared.Outcome.TheVariants.{OutOfFuel}
use Rattle.spec_ledger.specs.Cells.{Cells, reply_to}
use Rattle.spec_ledger.specs.Book.{after, GetsReplies}
use Rattle.spec_ledger.proofs.Traces.{GetsReplies-push, GetsReplies-mark}
use Rattle.spec_execution.specs.Configuration.{Setting}
use Rattle.spec_execution.specs.Levels.{Level, Levels, Move, On, Host, Over, Nowhere, move, IsChargedMove, Reached, at_first, moved, replied, closing, Ends, over, exhausted, IsRun, IsSafe}
use Rattle.spec_execution.proofs.Replies.{reply_fits}
use Rattle.laws_soundness.proofs.Weighing.{Charge, one_unit, free}
use Rattle.laws_soundness.proofs.Descending.{levels_weight, Lighter, move_lighter}

-- one reply more
push : (trace : List TraceStep) (op : Op) (cells : Cells) → GetsReplies trace cells → GetsReplies (trace ++ Did op (reply_to op (after trace cells)) ∷ []) cells
push trace op cells g = GetsReplies-push trace op (reply_to op (after trace cells)) cells g refl

-- the levels that are left at the end
dropped : (trace : List TraceStep) (n : ℕ) (cells : Cells) → GetsReplies trace cells → GetsReplies (trace ++ replicate n Dropped) cells
dropped trace zero cells g = subst (λ (t : List TraceStep). GetsReplies t cells) (sym (append-nil trace)) g
dropped trace (suc n) cells g =
    subst (λ (t : List TraceStep). GetsReplies t cells) (append_assoc trace (Dropped ∷ []) (replicate n Dropped)) (dropped (trace ++ Dropped ∷ []) n cells (GetsReplies-mark trace Dropped cells tt g))

-- ---- the run

module _ (setting : Setting) (start : Levels) (limit : ℕ) (cells : Cells) (safe : IsSafe setting start limit) where
  -- a run whose replies are those of the cells
  pub record Found : Type 0 where
    pub trace : List TraceStep
    pub outcome : Outcome
    pub fuel : ℕ
    pub run : IsRun setting start limit trace outcome fuel
    pub replies : GetsReplies trace cells

  -- a run has come to here
  record Here (trace : List TraceStep) (used : ℕ) (a : Levels) : Type 0 where
    reached : Reached setting start limit trace used a
    replies : GetsReplies trace cells
    within : used ≤ limit

  -- with less than so much fuel left, it goes on to its end
  abbrev Later : ℕ → Type 0
  Later left = (trace : List TraceStep) (used : ℕ) (a : Levels) → Here trace used a → limit < used + left → Found

  -- with no more than so much, from levels lighter than m
  abbrev Again : ℕ → ℕ → Type 0
  Again left m = (trace : List TraceStep) (used : ℕ) (a : Levels) → Here trace used a → limit < used + suc left → levels_weight a < m → Found

  by_test : (a b : ℕ) (t : Bool) → nat_le a b ≡ t → (a ≤ b → Found) → (b < a → Found) → Found
  by_test a b true e within beyond = within (grind (arith, nat_tests))
  by_test a b false e within beyond = beyond (grind (arith, nat_tests))

  module _ (left m : ℕ) (later : Later left) (again : Again left m) (trace : List TraceStep) (used : ℕ) (a : Levels) (h : Here trace used a) (lt : limit < used + suc left) (w : levels_weight a < suc m) where
    -- a move more, without marks
    step : (charge : ℕ) (b : Levels) → move setting a ≡ On charge [] b → used + charge ≤ limit → Here trace (used + charge) b
    step charge b e le = record {
      reached = subst (λ (t : List TraceStep). Reached setting start limit t (used + charge) b) (append-nil trace) (moved trace used a charge [] b h.reached e le);
      replies = h.replies;
      within = le;
    }

    no_fuel : (charge : ℕ) (b : Levels) → move setting a ≡ On charge [] b → charge ≡ 1 → used ≡ limit → Found
    no_fuel charge b e one full = record {
      trace = trace ++ closing a;
      outcome = OutOfFuel;
      fuel = used;
      run = record {
        before = trace;
        last = a;
        marks = closing a;
        reached = h.reached;
        ends = subst (λ (u : ℕ). Ends setting limit u a OutOfFuel (closing a)) (sym full) (exhausted a (subst IsChargedMove (sym e) one));
        trace_is = refl;
      };
      replies = dropped trace _ cells h.replies;
    }

    by_charge : (charge : ℕ) (b : Levels) → move setting a ≡ On charge [] b → Charge charge (levels_weight b < levels_weight a) → Found
    by_charge charge b e (one_unit one) =
        by_test (used + charge) limit (nat_le (used + charge) limit) refl
        (λ le. later trace (used + charge) b (step charge b e le) (omega (arith, one, lt)))
        (λ gt. no_fuel charge b e one (let g = h.within in omega (arith, one, g, gt)))
    by_charge charge b e (free none less) =
        let le : used + charge ≤ limit = let g = h.within in omega (arith, none, g) in
        again trace (used + charge) b (step charge b e le) (omega (arith, none, lt)) (omega (arith, less, w))

    by_move : (x : Move) → move setting a ≡ x → Lighter (levels_weight a) x → Found
    by_move (On charge [] b) e g = by_charge charge b e g
    by_move (On charge (mark ∷ []) b) e (is, none, less) =
        let le : used + charge ≤ limit = let g = h.within in omega (arith, none, g) in
        again (trace ++ mark ∷ []) (used + charge) b
        (record { reached = moved trace used a charge (mark ∷ []) b h.reached e le; replies = GetsReplies-mark trace mark cells is h.replies; within = le })
        (omega (arith, none, lt)) (omega (arith, less, w))
    by_move (On charge (mark ∷ other ∷ marks) b) e g = absurd g
    by_move (Host op go) e g =
        let r = reply_to op (after trace cells) in
        let less = g r in
        again (trace ++ Did op r ∷ []) used (go r)
        (record { reached = replied trace used a op go r h.reached e (reply_fits op (after trace cells)); replies = push trace op cells h.replies; within = h.within }) lt (omega (arith, less, w))
    by_move (Over outcome) e g = record {
      trace = trace;
      outcome = outcome;
      fuel = used;
      run = record { before = trace; last = a; marks = []; reached = h.reached; ends = over used a outcome e; trace_is = sym (append-nil trace) };
      replies = h.replies;
    }
    by_move Nowhere e g = absurd (safe trace used a h.reached e)

  settle : (left m : ℕ) → Later left → Again left m
  settle left zero later trace used a h lt w = absurd (omega (arith, w))
  settle left (suc m) later trace used a h lt w = by_move left m later (settle left m later) trace used a h lt w (move setting a) refl (move_lighter setting a)

  on_and_on : (left : ℕ) → Later left
  on_and_on zero trace used a h lt = absurd (let g = h.within in omega (arith, g, lt))
  on_and_on (suc left) trace used a h lt = settle left (suc (levels_weight a)) (on_and_on left) trace used a h lt (omega arith)

  pub run_found : Found
  run_found = on_and_on (suc limit) [] 0 start (record { reached = at_first; replies = tt; within = omega arith }) (omega arith)
