-- Where a call has not ended, there is an instruction to come, and its place is read off its state.
use Rattle.std.proofs.Common.{◌≡◌, ℕ, ℤ, suc, ◌+◌, ◌≤◌, Bool, true, false, List, [], ◌∷◌, ◌++◌, refl, sym, ap, ◌∙◌, subst, arith, Some, None, length, append-nil, append_assoc, add-zero}
use Rattle.std.specs.Prelude.{◌==◌, ◌&&◌, if◌then◌else◌, IsSome}
use Rattle.wtypes.specs.declared.Value.{Value}
use Rattle.wtypes.specs.declared.TrapCode.{TrapCode}
use Rattle.spec_ledger.specs.declared.Reply.{Reply}
use Rattle.spec_ledger.specs.declared.TraceStep.{TraceStep}
use Rattle.spec_ledger.specs.declared.TraceStep.TheVariants.{Kept, Dropped}
use Rattle.spec_ledger.specs.declared.Outcome.TheVariants.{OutOfFuel}
use Rattle.spec_execution.specs.Configuration.{Setting, Seq, End, State, Config, Running, Trap}
use Rattle.spec_execution.specs.Reduction.{Of, Ask, Answer, Next, Goes, Traps, Asks, Branches, Returns, Ended, Stuck}
use Rattle.spec_execution.specs.Run.{Opening, Opens, Refused, next, IsCharged}
use Rattle.spec_execution.specs.Levels.{Level, Levels, asked, trap_status, signed_of, no_answer, back_by, back_to, returned, fallen, entering, by_next, by_config, first_level, IsChargedMove, Reached, at_first, moved, replied}
use Rattle.spec_execution.specs.CallStates.{FreeMoves, none, one_more, IsAnswered, not_asked, Rests, to_come, ended, Turned, opened, turned}
use Rattle.spec_execution.specs.CallStates as turning
use Rattle.spec_execution.specs.Turns.{shown, is_to_come, place_of}
use Rattle.laws_soundness.specs.NextInstruction.{PlacesAreOfWhatComes}
use Rattle.interp.specs.MachineViews.{ending_by, ending_of}
use Rattle.debugger.specs.SessionView.{StatesHavePlaces}

-- ---- what a state comes after is reached

module _ (setting : Setting) (start : Levels) (limit : ℕ) where
  by_free : (trace marks : List TraceStep) (used : ℕ) (a b : Levels) → Reached setting start limit trace used a → used ≤ limit → FreeMoves setting a marks b → Reached setting start limit (trace ++ marks) used b
  by_free trace marks used a b r le (none x) = subst (λ t. Reached setting start limit t used x) (sym (append-nil trace)) r
  by_free trace marks used a b r le (one_more x y z ms steps e f) =
      let made : Reached setting start limit (trace ++ ms) (used + 0) y = moved trace used x 0 ms y r e (omega arith) in
      subst (λ t. Reached setting start limit t used z) (append_assoc trace ms steps)
      (by_free (trace ++ ms) steps used y z (subst (λ n. Reached setting start limit (trace ++ ms) n y) (add-zero used) made) le f)

  by_reply : (trace reply : List TraceStep) (used : ℕ) (a b : Levels) → Reached setting start limit trace used a → IsAnswered setting a reply b → Reached setting start limit (trace ++ reply) used b
  by_reply trace reply used a b r (not_asked x) = subst (λ t. Reached setting start limit t used x) (sym (append-nil trace)) r
  by_reply trace reply used a b r (turning.asked x op go answer e is) = replied trace used x op go answer r e is

  pub reached_by : (k : ℕ) (trace : List TraceStep) (a : Levels) → Turned setting start limit k trace a → Reached setting start limit trace k a
  reached_by k trace a (opened x marks f rest) = by_free [] marks 0 start x at_first (omega arith) f
  reached_by k trace a (turned n front steps x y t lt turn) =
      let before = reached_by n front x t in
      let one : Reached setting start limit (front ++ []) (n + 1) turn.charged = moved front n x 1 [] turn.charged before turn.one (omega arith) in
      let charged : Reached setting start limit front (n + 1) turn.charged = subst (λ u. Reached setting start limit u (n + 1) turn.charged) (append-nil front) one in
      let answered = by_reply front turn.reply (n + 1) turn.charged turn.replied charged turn.answer in
      let whole = by_free (front ++ turn.reply) turn.marks (n + 1) turn.replied y answered (omega arith) turn.free in
      let all : Reached setting start limit (front ++ steps) (n + 1) y = subst (λ u. Reached setting start limit u (n + 1) y) (append_assoc front turn.reply turn.marks ∙ ap (λ v. front ++ v) (sym turn.steps_are)) whole in
      let count : n + 1 ≡ suc n = omega arith in
      subst (λ m. Reached setting start limit (front ++ steps) m y) count all

-- a state rests
rests : (setting : Setting) (start : Levels) (limit k : ℕ) (trace : List TraceStep) (a : Levels) → Turned setting start limit k trace a → Rests setting a
rests setting start limit k trace a (opened x marks f rest) = rest
rests setting start limit k trace a (turned n front steps x y t lt turn) = turn.at_rest

-- ---- a charged move is one of the innermost level

module _ (setting : Setting) where
  not_back : (l : Level) (outer : List Level) (s : State) (status : ℕ) (answer : ℤ) (mark : TraceStep) (x : Next) → IsChargedMove (back_by l outer s status answer mark x) → ⊥
  not_back l outer s status answer mark (Asks (Ask n e v) go) h = omega (arith, h)
  not_back l outer s status answer mark (Asks (Of op) go) h = h
  not_back l outer s status answer mark (Asks Answer go) h = h
  not_back l outer s status answer mark (Goes charge s' q) h = h
  not_back l outer s status answer mark (Traps charge t) h = h
  not_back l outer s status answer mark (Branches charge k vs) h = h
  not_back l outer s status answer mark (Returns charge vs) h = h
  not_back l outer s status answer mark (Ended vs) h = h
  not_back l outer s status answer mark Stuck h = h

  not_back_to : (l : Level) (outer : List Level) (status : ℕ) (answer : ℤ) (mark : TraceStep) (x : Config) → IsChargedMove (back_to l outer status answer mark x) → ⊥
  not_back_to l outer status answer mark (Running s q) h = not_back l outer s status answer mark (next l.contract s q) h
  not_back_to l outer status answer mark (Trap s t) h = h

  not_returned : (vs : List Value) (outer : List Level) → IsChargedMove (returned vs outer) → ⊥
  not_returned vs [] h = h
  not_returned [] (l ∷ outer) h = h
  not_returned (v ∷ []) (l ∷ outer) h = not_back_to l outer 0 (signed_of v) Kept l.config h
  not_returned (v ∷ w ∷ vs) (l ∷ outer) h = h

  not_fallen : (t : TrapCode) (outer : List Level) → IsChargedMove (fallen t outer) → ⊥
  not_fallen t [] h = h
  not_fallen t (l ∷ outer) h = not_back_to l outer (trap_status t) no_answer Dropped l.config h

  not_entering : (l : Level) (outer : List Level) (s : State) (go : Reply → Seq) (x : ℤ) (o : Opening) → IsChargedMove (entering l outer s go x o) → ⊥
  not_entering l outer s go x (Opens c f) h = omega (arith, h)
  not_entering l outer s go x (Refused status) h = omega (arith, h)

  charged_next : (l : Level) (outer : List Level) (s : State) (x : Next) → IsChargedMove (by_next setting l outer s x) → IsCharged x
  charged_next l outer s (Goes charge s' q) h = h
  charged_next l outer s (Traps charge t) h = h
  charged_next l outer s (Asks (Of op) go) h = absurd h
  charged_next l outer s (Asks (Ask n e v) go) h = absurd (not_entering l outer s go v (asked setting (length outer) n e) h)
  charged_next l outer s (Asks Answer go) h = absurd (omega (arith, h))
  charged_next l outer s (Branches charge k vs) h = absurd h
  charged_next l outer s (Returns charge vs) h = absurd h
  charged_next l outer s (Ended vs) h = absurd (not_returned vs outer h)
  charged_next l outer s Stuck h = absurd h

  -- ---- where the run has not ended, all of the state is shown

  not_out : (b : Bool) → (if b then Some OutOfFuel else None) ≡ None → b ≡ false
  not_out true e = absurd (cc)
  not_out false e = refl

  goes_on : (l : Level) (outer : List Level) (s : State) (out : Bool) (x : Next) → IsCharged x → ending_by out (by_next setting l outer s x) ≡ None → (out && is_to_come x) ≡ false
  goes_on l outer s out (Goes charge s' q) h e = not_out (out && (charge == 1)) e
  goes_on l outer s out (Traps charge t) h e = not_out (out && (charge == 1)) e
  goes_on l outer s out (Asks w go) h e = absurd h
  goes_on l outer s out (Branches charge k vs) h e = absurd h
  goes_on l outer s out (Returns charge vs) h e = absurd h
  goes_on l outer s out (Ended vs) h e = absurd h
  goes_on l outer s out Stuck h e = absurd h

  shows_place : (l : Level) (outer : List Level) (limit k : ℕ) (x : Config) → l.config ≡ x → IsChargedMove (by_config setting l outer x) → ending_by (k == limit) (by_config setting l outer x) ≡ None
      → ((s : State) (q : Seq) → l.config ≡ Running s q → IsCharged (next l.contract s q) → IsSome (place_of (Running s q))) → IsSome (place_of (shown l.contract limit k x))
  shows_place l outer limit k (Running s q) is h e place =
      let charged = charged_next l outer s (next l.contract s q) h in
      subst (λ (b : Bool). IsSome (place_of (if b then Running s End else Running s q))) (sym (goes_on l outer s (k == limit) (next l.contract s q) charged e)) (place s q is charged)
  shows_place l outer limit k (Trap s t) is h e place = absurd (not_fallen t outer h)

  at_rest : (limit k : ℕ) (a : Levels) → Rests setting a → ending_of setting limit k a ≡ None
      → ((s : State) (q : Seq) → a.inner.config ≡ Running s q → IsCharged (next a.inner.contract s q) → IsSome (place_of (Running s q))) → IsSome (place_of (shown a.inner.contract limit k a.inner.config))
  at_rest limit k a (to_come b h) e place = shows_place b.inner b.outer limit k b.inner.config refl h e place
  at_rest limit k a (ended b o is) e place = absurd (let no : Some o ≡ None = sym (ap (ending_by (k == limit)) is) ∙ e in cc)

pub places_of_states : PlacesAreOfWhatComes → StatesHavePlaces
places_of_states places s sight goes =
    let state = sight.state in
    let reached = reached_by s.setting (first_level state.contract state.func s.call.args) s.call.fuel s.turns state.trace s.config state.turns in
    at_rest s.setting s.call.fuel s.turns s.config (rests s.setting (first_level state.contract state.func s.call.args) s.call.fuel s.turns state.trace s.config state.turns) goes
    (λ (x : State) (q : Seq) (is : s.config.inner.config ≡ Running x q) (charged : IsCharged (next s.config.inner.contract x q)).
    subst IsSome (sym (places s.setting state.contract state.func s.call.args s.call.fuel state.trace s.turns s.config x q reached is charged).place) refl)
