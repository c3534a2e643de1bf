-- What the innermost level does, among those around it, and where it pauses.
use Rattle.std.proofs.Common.{◌≡◌, ℕ, ℤ, List, [], ◌∷◌, refl, ap}
use Rattle.wtypes.specs.declared.Value.{Value}
use Rattle.wtypes.specs.declared.TrapCode.{TrapCode}
use Rattle.spec_ledger.specs.declared.TraceStep.{TraceStep}
use Rattle.spec_ledger.specs.declared.TraceStep.TheVariants.{Kept, Dropped}
use Rattle.spec_ledger.specs.declared.Outcome.TheVariants.{Returned, Trapped}
use Rattle.spec_execution.specs.Configuration.{Setting, State, Config, Running, Trap}
use Rattle.spec_execution.specs.Reduction.{Of, Ask, Answer, Next, Goes, Traps, Asks, Branches, Returns, Ended, Stuck}
use Rattle.spec_execution.specs.Run.{next, Reduces, result_of}
use Rattle.spec_execution.specs.Turns as one
use Rattle.spec_execution.specs.Levels.{Level, Levels, Nowhere, by_next, move, back_by, back_to, returned, fallen, trap_status, signed_of, no_answer}
use Rattle.spec_execution.specs.CallStates.{to_come, ended}
use Rattle.spec_execution.proofs.Lifting.{at, among, lifted, frees_lifted, charged_lifted}
use Rattle.interp.specs.Progress.{Pauses, rests, leaves, HasMoved}

-- ---- a level that is at its end is left, where it is not stuck

module _ (setting : Setting) (a : Levels) (safe : move setting a ≡ Nowhere → ⊥) where
  by_next_around : (l : Level) (outer : List Level) (s : State) (status : ℕ) (answer : ℤ) (mark : TraceStep) (x : Next) → move setting a ≡ back_by l outer s status answer mark x → Pauses setting a
  by_next_around l outer s status answer mark (Asks (Ask n e v) go) h = leaves a _ mark h
  by_next_around l outer s status answer mark (Asks (Of op) go) h = absurd (safe h)
  by_next_around l outer s status answer mark (Asks Answer go) h = absurd (safe h)
  by_next_around l outer s status answer mark (Goes charge s' q) h = absurd (safe h)
  by_next_around l outer s status answer mark (Traps charge t) h = absurd (safe h)
  by_next_around l outer s status answer mark (Branches charge k vs) h = absurd (safe h)
  by_next_around l outer s status answer mark (Returns charge vs) h = absurd (safe h)
  by_next_around l outer s status answer mark (Ended vs) h = absurd (safe h)
  by_next_around l outer s status answer mark Stuck h = absurd (safe h)

  by_config_around : (l : Level) (outer : List Level) (status : ℕ) (answer : ℤ) (mark : TraceStep) (x : Config) → move setting a ≡ back_to l outer status answer mark x → Pauses setting a
  by_config_around l outer status answer mark (Running s q) h = by_next_around l outer s status answer mark (next l.contract s q) h
  by_config_around l outer status answer mark (Trap s t) h = absurd (safe h)

  returned_pauses : (vs : List Value) (outer : List Level) → move setting a ≡ returned vs outer → Pauses setting a
  returned_pauses vs [] h = rests a (ended a (Returned (result_of vs)) h)
  returned_pauses [] (l ∷ outer) h = absurd (safe h)
  returned_pauses (v ∷ []) (l ∷ outer) h = by_config_around l outer 0 (signed_of v) Kept l.config h
  returned_pauses (v ∷ w ∷ vs) (l ∷ outer) h = absurd (safe h)

  fallen_pauses : (t : TrapCode) (outer : List Level) → move setting a ≡ fallen t outer → Pauses setting a
  fallen_pauses t [] h = rests a (ended a (Trapped t) h)
  fallen_pauses t (l ∷ outer) h = by_config_around l outer (trap_status t) no_answer Dropped l.config h

module _ (setting : Setting) (l : Level) (outer : List Level) where
  pub at_rest_pauses : (x : Config) → (move setting (among l outer x) ≡ Nowhere → ⊥) → one.IsAtRest l.contract x → Pauses setting (among l outer x)
  at_rest_pauses x safe (one.to_come s q h) = rests _ (to_come _ (charged_lifted setting l outer s q h))
  at_rest_pauses x safe (one.ended s q vs e) = returned_pauses setting (among l outer (Running s q)) safe vs outer (ap (by_next setting (at l (Running s q)) outer s) e)
  at_rest_pauses x safe (one.by_trap s t) = fallen_pauses setting (among l outer (Trap s t)) safe t outer refl

  -- a charged reduction and free ones are a turn, or the beginning of one
  pub moved_among : (x mid y : Config) → Reduces l.contract x 1 mid → one.Frees l.contract mid y → Pauses setting (among l outer y) → HasMoved setting (among l outer x) [] (among l outer y)
  moved_among x mid y red f pauses = record { charged = among l outer mid; one = lifted setting l outer x mid 1 red; free = frees_lifted setting l outer mid y f; pauses = pauses }
