-- What commands print of a call that runs alone over cells.
use Rattle.std.specs.Prelude.{◌≡◌, ℕ, ◌+◌, ◌<◌, ◌≤◌, ◌⊎◌, Bool, true, false, List, [], ◌∷◌, ◌++◌, Option, Some, None, IsSome, option_map, option_and_then, codes, take, drop, length, string_bytes}
use Rattle.spec_ledger.specs.Cells.{Cells}
use Rattle.spec_execution.specs.Configuration.{Setting}
use Rattle.spec_execution.specs.Run.{ContractCall, opening, Refused}
use Rattle.spec_modules.specs.Syntax.{Instr}
use Rattle.debugger.specs.declared.place.Place.{Place}
use Rattle.debugger.specs.Breaks.{as_place, with_break, without_break, instr_there, exported_function}
use Rattle.debugger.specs.SessionView.{SessionView, IsSessionView, stack_at, locals_at, globals_at, memory_at}
use Rattle.debugger.specs.Commands.{IsOpened, HasStepped, HasGoneBack, HasContinued}
use Rattle.debugger.specs.declared.session.Refusal.{Refusal}
use Rattle.debugger.specs.declared.session.Refusal.TheVariants as refusal
use Rattle.wblock_usage.specs.declared.spot.Spot.{Spot}
use Rattle.wblock_usage.specs.declared.spot.Spot.TheVariants.{Own, Of, Exported}
use Rattle.wblock_usage.specs.declared.debugging.Command.{Command}
use Rattle.wblock_usage.specs.declared.debugging.Command.TheVariants.{Step, Back, Cont, Place as PlaceAsked, Break, Clear, Stack, Locals, Globals, Bytes, Cells as CellsShown, Where}
use Rattle.wblock_call.specs.declared.style.Style.{Style}
use Rattle.wblock_debug.specs.Lines.{OthersAreAsBefore}
use Rattle.wblock_debug.specs.Tells.{TellsBytes, TellsCells, TellsOk, TellsRefusal, TellsStart, TellsState, TellsValues, TellsWhere}
use Rattle.wblock_debug.specs.declared.perform.Said.{Said}
use Rattle.wblock_debug.specs.declared.printed.Printed.{Printed}
use Rattle.wblock_debug.specs.declared.perform.Said.TheVariants as said

-- the place that a spot names: a function of the contract that is called, by its number or its name, or a function of another one
abbrev pub place_named : SessionView → Spot → Option Place
place_named s (Own f o) = Some (as_place s.call.contract f o)
place_named s (Of c f o) = Some (as_place c f o)
place_named s (Exported name o) = option_map (λ f. as_place s.call.contract f o) (exported_function s.contract.deployed.tree name.now)

-- the instruction there
abbrev pub instr_named : SessionView → Spot → Option Instr
instr_named s spot = option_and_then (instr_there s.setting.contracts) (place_named s spot)

abbrev pub with_break_at : List Place → Option Place → List Place
with_break_at breaks None = breaks
with_break_at breaks (Some p) = with_break breaks p

abbrev pub without_break_at : List Place → Option Place → List Place
without_break_at breaks None = breaks
without_break_at breaks (Some p) = without_break breaks p

-- A command that is done leads from one state to another, and tells what is read of the state that it comes to.
abbrev pub Does : (style : Style) → Command → SessionView → SessionView → List ℕ → Type 0
Does style (Step n) s t line = ((made : ℕ) × HasStepped s n made t) × TellsState style.json t line
Does style (Back n) s t line = HasGoneBack s n t × TellsState style.json t line
Does style Cont s t line = ((made : ℕ) × HasContinued s made t) × TellsState style.json t line
Does style PlaceAsked s t line = (t ≡ s) × TellsState style.json t line
Does style (Break spot) s t line = IsSome (instr_named s spot) × (t ≡ record s { breaks = with_break_at s.breaks (place_named s spot) }) × TellsOk style.json line
Does style (Clear spot) s t line = IsSome (instr_named s spot) × (t ≡ record s { breaks = without_break_at s.breaks (place_named s spot) }) × TellsOk style.json line
Does style Stack s t line = (t ≡ s) × TellsValues style.json (codes "stack") (stack_at t) line
Does style Locals s t line = (t ≡ s) × TellsValues style.json (codes "locals") (locals_at t) line
Does style Globals s t line = (t ≡ s) × TellsValues style.json (codes "globals") (globals_at t) line
Does style CellsShown s t line = (t ≡ s) × TellsCells style.json style.signed t line × OthersAreAsBefore t
Does style Where s t line = (t ≡ s) × TellsWhere style.json t line
Does style (Bytes from n) s t line = (t ≡ s) × (from + n ≤ length (memory_at t)) × TellsBytes style.json (take n (drop from (memory_at t))) line

-- a command that is refused, and why
abbrev pub Refuses : Command → SessionView → Refusal → Type 0
Refuses (Back n) s refusal.BeforeStart = s.turns < n
Refuses (Break spot) s refusal.NoSuchPlace = instr_named s spot ≡ None
Refuses (Clear spot) s refusal.NoSuchPlace = instr_named s spot ≡ None
Refuses (Bytes from n) s refusal.OutOfRange = length (memory_at s) < from + n
Refuses c s r = ⊥

-- From a first state on, these commands were given one after another: they have come to this state and printed this text. A command that is refused
-- leaves the state as it is and tells its number.
pub data IsPrinted (style : Style) (first : SessionView) : List Command → SessionView → (refused : Bool) → (text : List ℕ) → Type 0 where
  nothing : IsPrinted style first [] first false []
  done : (cs : List Command) (s : SessionView) (refused : Bool) (text : List ℕ) (c : Command) (t : SessionView) (line : List ℕ) → IsPrinted style first cs s refused text → Does style c s t line → IsSessionView t → IsPrinted style first (cs ++ c ∷ []) t refused (text ++ line)
  refused : (cs : List Command) (s : SessionView) (refused : Bool) (text : List ℕ) (c : Command) (r : Refusal) (line : List ℕ) → IsPrinted style first cs s refused text → Refuses c s r → TellsRefusal style.json r line → IsPrinted style first (cs ++ c ∷ []) s true (text ++ line)

-- what one command does and says
abbrev pub Performs : {A : Type 0} → (style : Style) → Command → SessionView → SessionView → Said A → Type 0
Performs style c s t (said.Line line) = Does style c s t (string_bytes line)
Performs style c s t (said.Refused r) = Refuses c s r × (t ≡ s)

-- one more command was given
abbrev pub AddsCommand : {A : Type 0} → (style : Style) → Command → SessionView → SessionView → Printed A → Printed A → Type 0
AddsCommand style c s t old new = (first : SessionView) (given : List Command) → IsPrinted style first given s old.refused (string_bytes old.text) → IsPrinted style first (given ++ c ∷ []) t new.refused (string_bytes new.text)

-- the call does not start, for the cause of a number
pub record IsNotStarted (json : Bool) (setting : Setting) (call : ContractCall) (refused : Bool) (text : List ℕ) : Type 0 where
  pub code : ℕ
  pub cause : opening setting call ≡ Refused code
  pub is_refused : refused ≡ true
  pub told : TellsStart json code text

-- the commands are given to the call alone over the cells, from its first state on
pub record IsShown (style : Style) (setting : Setting) (cells : Cells) (call : ContractCall) (commands : List Command) (refused : Bool) (text : List ℕ) : Type 0 where
  pub first : SessionView
  pub opened : IsOpened setting call cells first
  pub is_first : IsSessionView first
  pub last : SessionView
  pub printed : IsPrinted style first commands last refused text

abbrev pub IsDebugged : (style : Style) → Setting → Cells → ContractCall → List Command → Bool → List ℕ → Type 0
IsDebugged style setting cells call commands any_refused text = IsNotStarted style.json setting call any_refused text ⊎ IsShown style setting cells call commands any_refused text
