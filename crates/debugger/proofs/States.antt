-- The states of a call alone over cells: there is one after each number of turns, and a turn follows each but the last.
use Rattle.std.proofs.Common.{◌≡◌, ◌≢◌, inl, inr, ℕ, ◌<◌, true, false, List, [], ◌∷◌, ◌++◌, refl, sym, ap, ap₂, ◌∙◌, subst, arith, None, append_assoc}
use Rattle.std.specs.Prelude.{◌==◌, ◌⊎◌}
use Rattle.std.proofs.lemmas.Bool.{ne_eqb}
use Rattle.std.proofs.lemmas.Bool.Decides.{eqb_tells}
use Rattle.spec_ledger.specs.declared.TraceStep.{TraceStep}
use Rattle.spec_ledger.specs.declared.TraceStep.TheVariants.{Did, Opened, Kept, Dropped}
use Rattle.spec_ledger.specs.Cells.{Cells, cells_after}
use Rattle.spec_ledger.specs.Book.{Marked, unmarked, stepped, GetsReplies, GetsRepliesFrom}
use Rattle.spec_execution.specs.Configuration.{Setting, Contract}
use Rattle.spec_execution.specs.Run.{ContractCall, opening, Opens}
use Rattle.spec_execution.specs.Levels.{Levels, On, move, first_level}
use Rattle.spec_execution.specs.CallStates.{Turned, opened, turned, IsState}
use Rattle.spec_execution.specs.Walk.{over}
use Rattle.spec_execution.proofs.Executing.{answered}
use Rattle.spec_execution.proofs.States.{turns_unique}
use Rattle.interp.specs.MachineViews.{ending_of, ending_by}

-- ---- one state

pub one_contract : (setting : Setting) (call : ContractCall) (c d : Contract) (f g : ℕ) → opening setting call ≡ Opens c f → opening setting call ≡ Opens d g → (c ≡ d) × (f ≡ g)
one_contract setting call c d f g x y = let same : Opens c f ≡ Opens d g = sym x ∙ y in (cc, cc)

pub one_state : (setting : Setting) (call : ContractCall) (cells : Cells) (k : ℕ) (a b : Levels) → IsState setting call cells k a → IsState setting call cells k b → a ≡ b
one_state setting call cells k a b x y =
    let same = one_contract setting call x.contract y.contract x.func y.func x.starts y.starts in
    let there : Turned setting (first_level x.contract x.func call.args) call.fuel k y.trace b =
    subst (λ (c : Contract). Turned setting (first_level c x.func call.args) call.fuel k y.trace b) (sym same.0) (subst (λ f. Turned setting (first_level y.contract f call.args) call.fuel k y.trace b) (sym same.1) y.turns) in
    (turns_unique setting (first_level x.contract x.func call.args) call.fuel (over cells) k x.trace y.trace a b (answered x.trace cells x.replies) (answered y.trace cells y.replies) x.turns there).1

-- ---- a turn follows each state but the last

gets_front_from : (t u : List TraceStep) (p : Marked Cells) → GetsRepliesFrom (t ++ u) p → GetsRepliesFrom t p
gets_front_from [] u p h = tt
gets_front_from (Did op r ∷ t) u p h = (h.0, gets_front_from t u (stepped cells_after (Did op r) p) h.1)
gets_front_from (Opened ∷ t) u p h = gets_front_from t u (stepped cells_after Opened p) h
gets_front_from (Kept ∷ t) u p h = gets_front_from t u (stepped cells_after Kept p) h
gets_front_from (Dropped ∷ t) u p h = gets_front_from t u (stepped cells_after Dropped p) h

gets_front : (t u : List TraceStep) (cells : Cells) → GetsReplies (t ++ u) cells → GetsReplies t cells
gets_front t u cells h = gets_front_from t u (unmarked cells) h

-- a state before this one, from which the run goes on
record IsBefore (setting : Setting) (start : Levels) (limit j : ℕ) (trace : List TraceStep) : Type 0 where
  pub front : List TraceStep
  pub more : List TraceStep
  pub split : trace ≡ front ++ more
  pub config : Levels
  pub turns : Turned setting start limit j front config
  pub goes_on : ending_of setting limit j config ≡ None

goes_on : (setting : Setting) (limit j : ℕ) (a b : Levels) → j < limit → move setting a ≡ On 1 [] b → ending_of setting limit j a ≡ None
goes_on setting limit j a b below e = ap₂ ending_by (ne_eqb j limit (λ h. absurd (omega (arith, below, h)))) e

before : (setting : Setting) (start : Levels) (limit k j : ℕ) (trace : List TraceStep) (a : Levels) → Turned setting start limit k trace a → j < k → IsBefore setting start limit j trace
before setting start limit k j trace a (opened x marks f r) below = absurd (omega (arith, below))
before setting start limit k j trace a (turned n front steps x y w lt turn) below = by_test (eqb_tells j n) (λ h. before setting start limit n j front x w h)
  where
    by_test : ((j == n) ≡ true) × (j ≡ n) ⊎ ((j == n) ≡ false) × (j ≢ n) → (j < n → IsBefore setting start limit j front) → IsBefore setting start limit j (front ++ steps)
    by_test (inl h) rec = record {
      front = front;
      more = steps;
      split = refl;
      config = x;
      turns = subst (λ (i : ℕ). Turned setting start limit i front x) (sym h.1) w;
      goes_on = goes_on setting limit j x turn.charged (omega (arith, h.1, lt)) turn.one;
    }
    by_test (inr h) rec =
        let b : IsBefore setting start limit j front = rec (omega (arith, below, h.1)) in
        record { front = b.front; more = b.more ++ steps; split = ap (λ t. t ++ steps) b.split ∙ append_assoc b.front b.more steps; config = b.config; turns = b.turns; goes_on = b.goes_on }

pub record IsOnTheWay (setting : Setting) (call : ContractCall) (cells : Cells) (j : ℕ) : Type 0 where
  pub config : Levels
  pub state : IsState setting call cells j config
  pub goes_on : ending_of setting call.fuel j config ≡ None

pub earlier : (setting : Setting) (call : ContractCall) (cells : Cells) (k j : ℕ) (a : Levels) (x : IsState setting call cells k a) → j < k → IsOnTheWay setting call cells j
earlier setting call cells k j a x below =
    let b : IsBefore setting (first_level x.contract x.func call.args) call.fuel j x.trace = before setting (first_level x.contract x.func call.args) call.fuel k j x.trace a x.turns below in
    record {
      config = b.config;
      state = record { contract = x.contract; func = x.func; starts = x.starts; trace = b.front; turns = b.turns; replies = gets_front b.front b.more cells (subst (λ (t : List TraceStep). GetsReplies t cells) b.split x.replies) };
      goes_on = b.goes_on;
    }
