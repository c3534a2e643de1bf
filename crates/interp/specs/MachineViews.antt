-- What is shown of a call that runs.
use Rattle.std.specs.Prelude.{◌≡◌, ℕ, ◌+◌, ◌==◌, ◌&&◌, ◌<◌, ◌≤◌, Bool, true, false, List, [], ◌∷◌, Option, Some, None, Result, Ok, Err, if◌then◌else◌, length, take, drop, Vec}
use Rattle.wtypes.specs.declared.Value.{Value}
use Rattle.spec_ledger.specs.declared.Outcome.{Outcome}
use Rattle.spec_ledger.specs.declared.Outcome.TheVariants.{Returned, OutOfFuel}
use Rattle.spec_execution.specs.Configuration.{Setting, End, Config, Running}
use Rattle.spec_execution.specs.Levels.{Level, Levels, Move, On, Over, move}
use Rattle.spec_execution.specs.Turns.{shown, state_of, stack_of, locals_of, place_of}
use Rattle.interp.specs.declared.readers.BytesRefusal.{BytesRefusal}
use Rattle.interp.specs.declared.readers.BytesRefusal.TheVariants as refusal
use Rattle.interp.specs.declared.turns.Status.{Status}
use Rattle.interp.specs.declared.turns.Status.TheVariants as status
use Rattle.interp.specs.Progress.{Progress, last_level}

-- how a run has ended, if it has
abbrev pub ending_by : (out : Bool) → Move → Option Outcome
ending_by out (Over o) = Some o
ending_by out (On charge marks c) = if out && (charge == 1) then Some OutOfFuel else None
ending_by out _ = None

abbrev pub ending_of : Setting → (limit k : ℕ) → Levels → Option Outcome
ending_of setting limit k c = ending_by (k == limit) (move setting c)

-- the locals of the innermost frame, where the run has not ended
abbrev pub unless_ended : Option Outcome → List Value → List Value
unless_ended None locals = locals
unless_ended (Some o) locals = []

abbrev pub is_out : Option Outcome → Bool
is_out (Some OutOfFuel) = true
is_out _ = false

-- values are shown while the run goes on, and where it has returned
abbrev pub leaves_stack : Option Outcome → Bool
leaves_stack None = true
leaves_stack (Some (Returned r)) = true
leaves_stack (Some _) = false

-- ---- of a machine: what its innermost level shows

-- where the fuel was out, the levels that are left may not tell of it
abbrev pub ending_at : Progress → Status → Option Outcome
ending_at p (status.Ended o) = Some o
ending_at p status.Closing = Some OutOfFuel
ending_at p _ = ending_of p.setting p.call.fuel p.used p.config

abbrev pub ending : Progress → Option Outcome
ending p = ending_at p p.status

-- what is shown: where the fuel is out, the state alone
abbrev pub state_alone : Config → Config
state_alone x = Running (state_of x) End

abbrev pub shown_at : Progress → Status → Config
shown_at p (status.Ended OutOfFuel) = state_alone p.config.inner.config
shown_at p status.Closing = state_alone p.config.inner.config
shown_at p _ = shown p.config.inner.contract p.call.fuel p.used p.config.inner.config

abbrev pub config_shown : Progress → Config
config_shown p = shown_at p p.status

abbrev pub stack_shown : Progress → List Value
stack_shown p = stack_of (config_shown p)

abbrev pub locals_shown : Progress → List Value
locals_shown p = unless_ended (ending p) (locals_of p.config.inner.config)

abbrev pub place_shown : Progress → Option (ℕ × ℕ)
place_shown p = place_of (config_shown p)

abbrev pub is_fallen : Status → Bool
is_fallen (status.Fallen t) = true
is_fallen _ = false

-- the outer level, in which the others were entered
abbrev pub outermost : Levels → Level
outermost c = last_level c.inner c.outer

-- Memory was not refused.
abbrev pub IsShown : Status → Type 0
IsShown status.NoMemory = ⊥
IsShown _ = Unit {0}

-- what is read of these bytes of memory: exactly where all that is asked for lies in it, this
abbrev pub AreReadOf : {A : Type 0} → List ℕ → (from count : ℕ) → Result (Vec ℕ A) BytesRefusal → Type 0
AreReadOf memory from count (Ok bytes) = (from + count ≤ length memory) × (bytes.items ≡ take count (drop from memory))
AreReadOf memory from count (Err refusal.OutOfRange) = length memory < from + count
AreReadOf memory from count (Err refusal.NoMemory) = from + count ≤ length memory

abbrev pub IsReadOf : {A : Type 0} → Config → (from count : ℕ) → Result (Vec ℕ A) BytesRefusal → Type 0
IsReadOf x from count r = AreReadOf (state_of x).memory from count r
