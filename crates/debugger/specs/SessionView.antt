-- What a debugger's session shows.
use Rattle.std.specs.Prelude.{◌≡◌, ℕ, Bool, true, List, Option, Some, None, IsSome, if◌then◌else◌, length, refl}
use Rattle.std.specs.Coded.{Coded, code_by, coded×, coded_ℕ, coded_list}
use Rattle.wtypes.specs.declared.Value.{Value}
use Rattle.spec_ledger.specs.contracts.TraceStep as step
use Rattle.spec_ledger.specs.declared.Outcome.{Outcome}
use Rattle.spec_ledger.specs.declared.TraceStep.{TraceStep}
use Rattle.spec_ledger.specs.Book.{after, has_returned}
use Rattle.spec_ledger.specs.Cells.{Cells}
use Rattle.spec_ledger.specs.Codes.{coded_cells}
use Rattle.spec_execution.specs.Configuration.{Setting, Contract, State, Config}
use Rattle.spec_execution.specs.Run.{ContractCall, opening, Opens}
use Rattle.spec_execution.specs.Levels.{Level, Levels, asks_in}
use Rattle.spec_execution.specs.Turns.{shown, state_of, stack_of, locals_of, place_of}
use Rattle.spec_execution.specs.CallStates.{IsState}
use Rattle.interp.specs.Codes.{coded_setting, coded_contract, coded_levels, coded_call}
use Rattle.interp_state.specs.declared.frames.OpenFrame.{OpenFrame}
use Rattle.interp.specs.Chains.{chain}
use Rattle.interp.specs.Progress.{Progress}
use Rattle.interp.specs.MachineViews.{ending_of, unless_ended, place_shown, outermost}
use Rattle.debugger.specs.contracts.place.Place as place
use Rattle.debugger.specs.declared.place.Place.{Place}
use Rattle.debugger.specs.Breaks.{placed}

-- a call alone over cells, how many of its turns were made, with which steps, and the configuration that it has come to; and the breaks
pub record SessionView : Type 0 where
  pub setting : Setting
  pub call : ContractCall
  -- the contract that is called
  pub contract : Contract
  -- the cells at the start
  pub cells : Cells
  pub turns : ℕ
  -- the operations with their replies, and the marks of levels
  pub trace : List TraceStep
  pub config : Levels
  pub breaks : List Place

abbrev pub coded_session_view : Coded SessionView
coded_session_view =
    code_by (Setting × (ContractCall × (Contract × (Cells × (ℕ × (List TraceStep × (Levels × List Place)))))))
    (coded× coded_setting (coded× coded_call (coded× coded_contract (coded× coded_cells (coded× coded_ℕ (coded× (coded_list step.the_row.coded) (coded× coded_levels (coded_list place.the_row.coded))))))))
    (λ s. (s.setting, (s.call, (s.contract, (s.cells, (s.turns, (s.trace, (s.config, s.breaks))))))))
    (λ p. record { setting = p.0; call = p.1.0; contract = p.1.1.0; cells = p.1.1.1.0; turns = p.1.1.1.1.0; trace = p.1.1.1.1.1.0; config = p.1.1.1.1.1.1.0; breaks = p.1.1.1.1.1.1.1 }) (λ _. refl)

-- the state after so many turns with these steps, of the contract that the call opens with
pub record IsSessionView (s : SessionView) : Type 0 where
  pub func : ℕ
  pub opens : opening s.setting s.call ≡ Opens s.contract func
  pub state : IsState s.setting s.call s.cells s.turns s.config
  pub trace_is : state.trace ≡ s.trace

abbrev pub session_view_of : Progress → Cells → List Place → SessionView
session_view_of p start breaks = record { setting = p.setting; call = p.call; contract = p.contract; cells = start; turns = p.used; trace = p.trace; config = p.config; breaks = breaks }

-- ---- what is read off the state

-- how the run has ended, if it has
abbrev pub ending_at : SessionView → Option Outcome
ending_at s = ending_of s.setting s.call.fuel s.turns s.config

-- where the fuel is out, the state alone
abbrev pub config_at : SessionView → Config
config_at s = shown s.config.inner.contract s.call.fuel s.turns s.config.inner.config

-- the function and the ordinal of the instruction to come
abbrev pub place_at : SessionView → Option (ℕ × ℕ)
place_at s = place_of (config_at s)

-- Each state has ended, or else an instruction is to come, and its place is shown.
abbrev pub StatesHavePlaces : Type 0
StatesHavePlaces = (s : SessionView) → IsSessionView s → ending_at s ≡ None → IsSome (place_at s)

-- the number of the contract that the innermost level runs, and how many levels are around it
abbrev pub contract_at : SessionView → ℕ
contract_at s = s.config.inner.contract.number

abbrev pub level_at : SessionView → ℕ
level_at s = length s.config.outer

-- how many levels were entered
abbrev pub asks_at : SessionView → ℕ
asks_at s = asks_in s.trace

-- the frames that are open at all levels, from the outer level on, each with what it goes on with
abbrev pub frames_at : SessionView → List OpenFrame
frames_at s = chain s.config

-- whether what a call has done stands: while it runs, and where it has returned
abbrev pub stands : Option Outcome → Bool
stands None = true
stands (Some o) = has_returned o

-- the cells that stand: those after its operations, but for those of levels that were dropped, or else those at the start
abbrev pub cells_at : SessionView → Cells
cells_at s = if stands (ending_at s) then after s.trace s.cells else s.cells

-- where a break may hold: at the place, in the contract that the innermost level runs
abbrev pub break_place_at : SessionView → Option Place
break_place_at s = placed (contract_at s) (place_at s)

-- the same of a machine
abbrev pub break_place_shown : Progress → Option Place
break_place_shown p = placed p.config.inner.contract.number (place_shown p)

-- the values of the innermost frame, bottom first; after the end the returned value, if there is one
abbrev pub stack_at : SessionView → List Value
stack_at s = stack_of (config_at s)

-- the locals of the innermost frame; after the end none
abbrev pub locals_at : SessionView → List Value
locals_at s = unless_ended (ending_at s) (locals_of s.config.inner.config)

-- whose globals and memory are shown: the innermost level; after the end the outer one
abbrev pub level_shown : Option Outcome → Levels → Level
level_shown None c = c.inner
level_shown (Some o) c = outermost c

abbrev pub instance_at : SessionView → State
instance_at s = state_of (level_shown (ending_at s) s.config).config

abbrev pub globals_at : SessionView → List Value
globals_at s = (instance_at s).globals

abbrev pub memory_at : SessionView → List ℕ
memory_at s = (instance_at s).memory

-- the same of a machine that goes on
abbrev pub memory_shown : Progress → List ℕ
memory_shown p = (state_of (level_shown (ending_of p.setting p.call.fuel p.used p.config) p.config).config).memory
