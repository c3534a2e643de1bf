-- What a session keeps.
use Rattle.std.proofs.Common.{◌≡◌, ◌≢◌, ℕ, ◌+◌, ◌-◌, ◌<◌, ◌≤◌, true, false, true≢false, List, [], refl, sym, ap, ap₂, ◌∙◌, subst, arith, Option, Some, None, inl, inr, slice_index_or}
use Rattle.std.specs.Prelude.{◌⊎◌, ◌==◌, IsSome, All, length}
use Rattle.std.proofs.lemmas.Bool.Decides.{eqb_tells}
use Rattle.spec_ledger.specs.declared.Inverse.{Inverse}
use Rattle.spec_ledger.specs.declared.Outcome.{Outcome}
use Rattle.spec_ledger.specs.declared.TraceStep.{TraceStep}
use Rattle.spec_ledger.specs.Cells.{Cells}
use Rattle.storage.specs.Counts.{Store}
use Rattle.spec_execution.specs.Configuration.{Setting}
use Rattle.spec_execution.specs.Run.{ContractCall}
use Rattle.spec_execution.specs.Levels.{Levels}
use Rattle.spec_execution.specs.Turns.{shown, place_of}
use Rattle.spec_execution.specs.CallStates.{Turned, opened, turned, IsState}
use Rattle.interp.specs.Progress.{Progress}
use Rattle.interp.specs.MachineViews.{ending, ending_of}
use Rattle.debugger.specs.declared.place.Place.{Place}
use Rattle.debugger.specs.declared.cursor.Cursor.{Cursor}
use Rattle.debugger.specs.declared.kept.Kept.{Kept}
use Rattle.debugger.specs.Breaks.{is_set_at, placed}
use Rattle.debugger.specs.Cursors.{HasTurned, HasAnswered, IsAt, IsSameRun, IsCopy}
use Rattle.debugger.specs.Keeping.{IsOfRun, AreSpaced, last_turns, AreKept, next_turns, IsKept, seen_at, HasNoBreakBetween}
use Rattle.debugger.specs.SessionView.{SessionView, IsSessionView, session_view_of, ending_at, break_place_at, break_place_shown}
use Rattle.debugger.specs.Commands as commands
use Rattle.debugger.proofs.States.{one_state, IsOnTheWay, earlier}
use Rattle.debugger.proofs.Turning.{is_sight, ending_is, place_is}

pub at_copy : {A : Type 0} (c d : Cursor A) → IsAt c → IsCopy c d → IsAt d
at_copy c d h k = record {
  turns = subst HasTurned (sym k.machine) h.turns;
  cells =
      subst (λ (p : Progress). HasAnswered p.trace d.start.now.cells d.cells.cells d.undo.inverses.items d.undo.marks.items) (sym k.machine)
      (subst (λ (s : Store). HasAnswered c.machine.trace s.cells d.cells.cells d.undo.inverses.items d.undo.marks.items) (sym k.start)
      (subst (λ (x : Cells). HasAnswered c.machine.trace c.start.now.cells x d.undo.inverses.items d.undo.marks.items) (sym k.cells)
      (subst (λ (is : List Inverse). HasAnswered c.machine.trace c.start.now.cells c.cells.cells is d.undo.marks.items) (sym k.inverses)
      (subst (λ (ms : List ℕ). HasAnswered c.machine.trace c.start.now.cells c.cells.cells c.undo.inverses.items ms) (sym k.marks) h.cells))));
}

pub run_copy : {A : Type 0} (c d : Cursor A) → IsCopy c d → IsSameRun c d
run_copy c d k = record {
  call = record { setting = ap (λ p. p.setting) k.machine; call = ap (λ p. p.call) k.machine; contract = ap (λ p. p.contract) k.machine; func = ap (λ p. p.func) k.machine };
  start = k.start;
}

pub run_on : {A : Type 0} (c d e : Cursor A) → IsSameRun c d → IsSameRun d e → IsSameRun c e
run_on c d e h k = record {
  call = record { setting = k.call.setting ∙ h.call.setting; call = k.call.call ∙ h.call.call; contract = k.call.contract ∙ h.call.contract; func = k.call.func ∙ h.call.func };
  start = k.start ∙ h.start;
}

pub run_back : {A : Type 0} (c d : Cursor A) → IsSameRun c d → IsSameRun d c
run_back c d h = record {
  call = record { setting = sym h.call.setting; call = sym h.call.call; contract = sym h.call.contract; func = sym h.call.func };
  start = sym h.start;
}

-- no run makes more turns than its limit
within : (setting : Setting) (start : Levels) (limit k : ℕ) (t : List TraceStep) (x : Levels) → Turned setting start limit k t x → k ≤ limit
within setting start limit k t x (opened y marks f r) = omega arith
within setting start limit k t x (turned n front steps y z w lt turn) = omega (arith, lt)

pub at_within : {A : Type 0} (c : Cursor A) → IsAt c → c.machine.used ≤ c.machine.call.fuel
at_within c h = within _ _ _ _ _ _ h.turns.turned

-- ---- two states of one run

module _ {A : Type 0} (c : Cursor A) (h : IsAt c) (setting : Setting) (call : ContractCall) (cells : Cells) (k : ℕ) (x : Levels) (state : IsState setting call cells k x)
    (same_setting : setting ≡ c.machine.setting) (same_call : call ≡ c.machine.call) (same_cells : cells ≡ c.start.now.cells) (same_turns : k ≡ c.machine.used) where
  there : IsState c.machine.setting c.machine.call c.start.now.cells c.machine.used x
  there =
      subst (λ (ds : Setting). IsState ds c.machine.call c.start.now.cells c.machine.used x) same_setting
      (subst (λ (l : ContractCall). IsState setting l c.start.now.cells c.machine.used x) same_call
      (subst (λ (m : Cells). IsState setting call m c.machine.used x) same_cells
      (subst (λ (n : ℕ). IsState setting call cells n x) same_turns state)))

  pub same_config : x ≡ c.machine.config
  same_config = one_state c.machine.setting c.machine.call c.start.now.cells c.machine.used x c.machine.config there (is_sight c.machine c.start.now.cells [] h.turns h.cells.replies).state

-- turns that stop before a state that was reached do not stop at an end
no_end : (o : Option Outcome) → o ≡ None → IsSome o → ⊥
no_end None e h = absurd (true≢false (sym h))
no_end (Some r) e h = absurd (cc)

module _ {A : Type 0} (here cursor : Cursor A) (h : IsAt here) (k : IsAt cursor) (run : IsSameRun here cursor) where
  goes_on_before : cursor.machine.used < here.machine.used → ending cursor.machine ≡ None
  goes_on_before below =
      let e : IsOnTheWay here.machine.setting here.machine.call here.start.now.cells cursor.machine.used =
      earlier here.machine.setting here.machine.call here.start.now.cells here.machine.used cursor.machine.used here.machine.config (is_sight here.machine here.start.now.cells [] h.turns h.cells.replies).state below in
      let config_is : e.config ≡ cursor.machine.config =
      same_config cursor k here.machine.setting here.machine.call here.start.now.cells cursor.machine.used e.config e.state (sym run.call.setting) (sym run.call.call) (ap (λ s. s.cells) (sym run.start)) refl in
      ending_is cursor.machine k.turns.goes_on
      ∙ ap₂ (λ (ds : Setting) (l : ContractCall). ending_of ds l.fuel cursor.machine.used cursor.machine.config) run.call.setting run.call.call
      ∙ ap (ending_of here.machine.setting here.machine.call.fuel cursor.machine.used) (sym config_is) ∙ e.goes_on

  pub reaches : (n : ℕ) → cursor.machine.used ≤ n → n ≤ here.machine.used → (cursor.machine.used ≡ n) ⊎ IsSome (ending cursor.machine) → cursor.machine.used ≡ n
  reaches n most less (inl e) = e
  reaches n most less (inr some) = by_test (eqb_tells cursor.machine.used n)
    where
      by_test : ((cursor.machine.used == n) ≡ true) × (cursor.machine.used ≡ n) ⊎ ((cursor.machine.used == n) ≡ false) × (cursor.machine.used ≢ n) → cursor.machine.used ≡ n
      by_test (inl t) = t.1
      by_test (inr t) = absurd (no_end (ending cursor.machine) (goes_on_before (let apart = t.1 in omega (arith, most, less, apart))) some)

-- ---- a state with as many turns has the same place

abbrev break_place_of : Levels → ContractCall → (turns : ℕ) → Option Place
break_place_of x call turns = placed x.inner.contract.number (place_of (shown x.inner.contract call.fuel turns x.inner.config))

module _ {A : Type 0} (c d : Cursor A) (k : IsAt d) (run : IsSameRun c d) (u : SessionView) (is : IsSessionView u) (same : commands.IsSameRun (seen_at c) u) where
  pub same_place : u.turns ≡ d.machine.used → break_place_at u ≡ break_place_shown d.machine
  same_place turns =
      let config_is : u.config ≡ d.machine.config =
      same_config d k u.setting u.call u.cells u.turns u.config is.state (same.setting ∙ sym run.call.setting) (same.call ∙ sym run.call.call) (same.cells ∙ ap (λ s. s.cells) (sym run.start)) turns in
      ap (λ (l : ContractCall). break_place_of u.config l u.turns) (same.call ∙ sym run.call.call)
      ∙ ap₂ (λ (n : ℕ) (x : Levels). break_place_of x d.machine.call n) turns config_is
      ∙ ap (placed d.machine.config.inner.contract.number) (sym (place_is d.machine k.turns.goes_on))

-- one turn more, at whose end there is no break
pub no_break_more : {A : Type 0} (breaks : List Place) (c e : Cursor A) (m n : ℕ) → IsOfRun c e → e.machine.used ≡ n + 1 → is_set_at breaks (break_place_shown e.machine) ≡ false
    → ((u : SessionView) → IsSessionView u → commands.IsSameRun (seen_at c) u → m < u.turns → u.turns ≤ n → is_set_at breaks (break_place_at u) ≡ false)
    → (u : SessionView) → IsSessionView u → commands.IsSameRun (seen_at c) u → m < u.turns → u.turns ≤ e.machine.used → is_set_at breaks (break_place_at u) ≡ false
no_break_more breaks c e m n k used none so_far u is same above below = by_test (eqb_tells u.turns e.machine.used)
  where
    by_test : ((u.turns == e.machine.used) ≡ true) × (u.turns ≡ e.machine.used) ⊎ ((u.turns == e.machine.used) ≡ false) × (u.turns ≢ e.machine.used) → is_set_at breaks (break_place_at u) ≡ false
    by_test (inl t) = ap (is_set_at breaks) (same_place c e k.at k.same u is same t.1) ∙ none
    by_test (inr t) = so_far u is same above (let apart = t.1 in omega (arith, used, below, apart))

pub moved_more : {A : Type 0} (c d e : Cursor A) → (c.machine.used < d.machine.used) ⊎ (d ≡ c) → e.machine.used ≡ d.machine.used + 1 → c.machine.used < e.machine.used
moved_more c d e (inl h) used = omega (arith, h, used)
moved_more c d e (inr h) used = omega (arith, used, ap (λ x. x.machine.used) h)

-- ---- states that are kept

pub copy_of_run : {A : Type 0} (here c d : Cursor A) → IsOfRun here c → IsCopy c d → IsOfRun here d
copy_of_run here c d h k = record { at = at_copy c d h.at k; same = run_on here c d h.same (run_copy c d k) }

-- turns made from an earlier state on, so many as there are to a state that was reached, lead to it
pub leads_to : {A : Type 0} (here earlier start end : Cursor A) (turns made : ℕ) → IsAt here → IsOfRun here earlier → earlier.machine.used ≤ turns → turns ≤ here.machine.used → IsCopy earlier start → IsAt end → IsSameRun start end
    → end.machine.used ≡ start.machine.used + made → made ≤ turns - start.machine.used → (made ≡ turns - start.machine.used) ⊎ IsSome (ending end.machine) → end.machine.used ≡ turns
leads_to here earlier start end turns made h k before below copy at same used most all =
    let first : start.machine.used ≡ earlier.machine.used = ap (λ p. p.used) copy.machine in
    reaches here end h at (run_on here start end (copy_of_run here earlier start k copy).same same) turns (omega (arith, first, before, used, most)) below (by_all first all)
  where
    by_all : start.machine.used ≡ earlier.machine.used → (made ≡ turns - start.machine.used) ⊎ IsSome (ending end.machine) → (end.machine.used ≡ turns) ⊎ IsSome (ending end.machine)
    by_all first (inl e) = inl (omega (arith, first, before, used, e))
    by_all first (inr some) = inr some

-- seen from another state of the run
pub of_run_from : {A : Type 0} (a b c : Cursor A) → IsSameRun a b → IsOfRun a c → IsOfRun b c
of_run_from a b c run h = record { at = h.at; same = run_on b a c (run_back a b run) h.same }

pub kept_from : {A : Type 0} (a b : Cursor A) (k : Kept A) → IsSameRun a b → AreKept a k → AreKept b k
kept_from a b k run h = record {
  all = λ i d below. of_run_from a b (slice_index_or k.cursors.items i d) run (h.all i d below);
  few = h.few;
  spaced = h.spaced;
  last_is = h.last_is;
  least = h.least;
  near = h.near;
}

-- what a session keeps, after it has gone on to another state of the run
pub kept_on : {A : Type 0} (origin here next : Cursor A) (old new : Kept A) → IsKept origin here old → IsOfRun here next → AreKept here new → next.machine.used < next_turns new → IsKept origin next new
kept_on origin here next old new k h kept reached = record {
  first = record { of_run = of_run_from here next origin h.same k.first.of_run; before = k.first.before };
  at = h.at;
  kept = kept_from here next new h.same kept;
  reached = reached;
}

-- what a session keeps, where more is kept and it has not gone on
pub kept_still : {A : Type 0} (origin here : Cursor A) (old new : Kept A) → IsKept origin here old → AreKept here new → next_turns old ≤ next_turns new → IsKept origin here new
kept_still origin here old new k kept further = record { first = k.first; at = k.at; kept = kept; reached = omega (arith, k.reached, further) }

-- what a session keeps at first
pub kept_first : {A : Type 0} (origin here : Cursor A) (others : Kept A) → IsAt origin → origin.machine.used ≡ 0 → IsCopy origin here → others.cursors.items ≡ [] → others.last ≡ 0 → others.distance ≡ 1024 → IsKept origin here others
kept_first {A = A} origin here others h none k no_others last distance = record {
  first = record { of_run = record { at = h; same = run_back origin here (run_copy origin here k) }; before = omega (arith, none) };
  at = at_copy origin here h k;
  kept = record {
    all = subst (λ (cs : List (Cursor A)). All (IsOfRun here) cs) (sym no_others) (λ i d below. absurd (omega (arith, below)));
    few = subst (λ (cs : List (Cursor A)). length cs ≤ 64) (sym no_others) (omega arith);
    spaced = subst (AreSpaced others.distance 0) (sym no_others) tt;
    last_is = last ∙ sym (ap (last_turns 0) no_others);
    least = omega (arith, distance);
    near = inl distance;
  };
  reached = omega (arith, last, distance, none, ap (λ p. p.used) k.machine);
}

-- ---- on to a break

-- a break holds in a state where its machine says so
seen_break : {A : Type 0} (c : Cursor A) (breaks : List Place) → IsAt c → break_place_at (session_view_of c.machine c.start.now.cells breaks) ≡ break_place_shown c.machine
seen_break c breaks at = ap (placed c.machine.config.inner.contract.number) (sym (place_is c.machine at.turns.goes_on))

-- the end of a run is seen as its machine shows it
pub seen_end : {A : Type 0} (P : Type 0) (c : Cursor A) (breaks : List Place) → IsAt c → P ⊎ IsSome (ending c.machine) → P ⊎ IsSome (ending_at (session_view_of c.machine c.start.now.cells breaks))
seen_end P c breaks at (inl h) = inl h
seen_end P c breaks at (inr h) = inr (subst (λ (o : Option Outcome). IsSome o) (ending_is c.machine at.turns.goes_on) h)

module _ {A : Type 0} (here start end : Cursor A) (at_here : IsAt here) (at_end : IsAt end) (breaks set : List Place) (set_is : set ≡ breaks) (k : IsCopy here start) (run : IsSameRun here end)
    (moves : (start.machine.used < end.machine.used) ⊎ (IsSome (ending start.machine) × (end ≡ start)))
    (stops : (is_set_at set (break_place_shown end.machine) ≡ true) ⊎ IsSome (ending end.machine)) (least : HasNoBreakBetween set here start.machine.used end.machine.used) where
  no_less : (start.machine.used < end.machine.used) ⊎ (IsSome (ending start.machine) × (end ≡ start)) → start.machine.used ≤ end.machine.used
  no_less (inl h) = omega (arith, h)
  no_less (inr h) = omega (arith, ap (λ x. x.machine.used) h.1)

  pub continued : (before after : ℕ) → before ≡ here.machine.used → after ≡ end.machine.used
      → commands.HasContinued (session_view_of here.machine here.start.now.cells breaks) (after - before) (session_view_of end.machine end.start.now.cells breaks)
  continued before after before_is after_is =
      let first : start.machine.used ≡ here.machine.used = ap (λ p. p.used) k.machine in
      record {
        same = record { run = record { setting = run.call.setting; call = run.call.call; contract = run.call.contract; cells = ap (λ s. s.cells) run.start }; breaks = refl };
        turns = omega (arith, first, before_is, after_is, no_less moves);
        moves = seen_end _ here breaks at_here (has_moved moves first);
        stops = seen_end _ end breaks at_end (stops_at stops);
        least = λ u is same above below. ap (λ bs. is_set_at bs (break_place_at u)) (sym set_is)
            ∙ least u is (record { setting = same.setting; call = same.call; contract = same.contract; cells = same.cells }) (omega (arith, first, above)) below;
      }
    where
      has_moved : (start.machine.used < end.machine.used) ⊎ (IsSome (ending start.machine) × (end ≡ start)) → start.machine.used ≡ here.machine.used → (0 < after - before) ⊎ IsSome (ending here.machine)
      has_moved (inl h) first = inl (omega (arith, h, first, before_is, after_is))
      has_moved (inr h) first = inr (subst (λ (p : Progress). IsSome (ending p)) k.machine h.0)

      stops_at : (is_set_at set (break_place_shown end.machine) ≡ true) ⊎ IsSome (ending end.machine) → commands.IsAtBreak breaks (session_view_of end.machine end.start.now.cells breaks) ⊎ IsSome (ending end.machine)
      stops_at (inl h) = inl (ap (is_set_at breaks) (seen_break end breaks at_end) ∙ ap (λ bs. is_set_at bs (break_place_shown end.machine)) (sym set_is) ∙ h)
      stops_at (inr h) = inr h
