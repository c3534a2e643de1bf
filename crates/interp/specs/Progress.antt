-- What contracts see of a machine: a call over lent contracts, and how far its run is.
use Rattle.std.specs.Prelude.{◌≡◌, ℕ, ◌+◌, ◌-◌, ◌*◌, ◌<◌, ◌≤◌, Bool, true, false, List, [], ◌∷◌, ◌++◌, ◌⊎◌, length, replicate, Option, Some, None, refl}
use Rattle.std.specs.Coded.{Coded, code_by, coded×, coded_ℕ, coded_list}
use Rattle.spec_ledger.specs.contracts.TraceStep as step
use Rattle.spec_ledger.specs.declared.TraceStep.{TraceStep}
use Rattle.spec_ledger.specs.declared.TraceStep.TheVariants.{Did, Opened, Kept, Dropped}
use Rattle.spec_ledger.specs.declared.Op.{Op}
use Rattle.spec_ledger.specs.declared.Reply.{Reply}
use Rattle.spec_ledger.specs.declared.Outcome.{Outcome}
use Rattle.spec_ledger.specs.declared.Receipt.{Receipt}
use Rattle.spec_ledger.specs.declared.Outcome.TheVariants.{Trapped, OutOfFuel}
use Rattle.spec_modules.specs.Syntax.{Instr}
use Rattle.spec_execution.specs.Configuration.{Setting, Contract, Seq, End, Val, Code, Free, Label, Frame, Invoke, Config, Running, Trap}
use Rattle.spec_execution.specs.Run.{ContractCall, opening, Opens, IsReply}
use Rattle.spec_execution.specs.Levels.{Level, Levels, On, Host, first_level, move, IsChargedMove, Reached, Ends, IsRun}
use Rattle.spec_execution.specs.Turns.{state_of}
use Rattle.spec_execution.specs.CallStates.{FreeMoves, Rests}
use Rattle.interp_state.specs.Taking.{takes_memory}
use Rattle.interp.specs.contracts.turns.Status as status_of
use Rattle.interp.specs.declared.turns.Status.{Status}
use Rattle.interp.specs.declared.turns.Status.TheVariants as status
use Rattle.interp.specs.declared.turns.Turn.{Turn}
use Rattle.interp.specs.declared.turns.Turn.TheVariants as turn
use Rattle.interp.specs.Codes.{coded_setting, coded_contract, coded_levels, coded_call}
use Rattle.interp.specs.FinishedCalls.{Played, IsPlayed, receipt_of}

-- the outer level, in which the others were entered
abbrev pub last_level : Level → List Level → Level
last_level l [] = l
last_level l (k ∷ ks) = last_level k ks

pub record Progress : Type 0 where
  pub setting : Setting
  pub call : ContractCall
  -- the contract that is called, and the number of the function
  pub contract : Contract
  pub func : ℕ
  pub trace : List TraceStep
  pub used : ℕ
  pub config : Levels
  pub status : Status

abbrev pub coded_progress : Coded Progress
coded_progress =
    code_by (Setting × (ContractCall × (Contract × (ℕ × (List TraceStep × (ℕ × (Levels × Status)))))))
    (coded× coded_setting (coded× coded_call (coded× coded_contract (coded× coded_ℕ (coded× (coded_list step.the_row.coded) (coded× coded_ℕ (coded× coded_levels status_of.the_row.coded)))))))
    (λ m. (m.setting, (m.call, (m.contract, (m.func, (m.trace, (m.used, (m.config, m.status))))))))
    (λ p. record { setting = p.0; call = p.1.0; contract = p.1.1.0; func = p.1.1.1.0; trace = p.1.1.1.1.0; used = p.1.1.1.1.1.0; config = p.1.1.1.1.1.1.0; status = p.1.1.1.1.1.1.1 }) (λ _. refl)

-- how many levels are around the innermost one
abbrev pub depth_of : Progress → ℕ
depth_of p = length p.config.outer

-- What bounds the turns that are left and the levels: a turn uses a unit, and enters one level at most.
abbrev pub left_of : Progress → ℕ
left_of p = 2 * (p.call.fuel - p.used) + depth_of p

-- The host is asked for this operation.
pub record IsAsking (setting : Setting) (config : Levels) (op : Op) : Type 0 where
  pub go : Reply → Levels
  pub asks : move setting config ≡ Host op go

-- An instruction is to come or the run has ended; or the innermost level is left next, which is free.
pub data Pauses (setting : Setting) : Levels → Type 0 where
  rests : (a : Levels) → Rests setting a → Pauses setting a
  leaves : (a b : Levels) (mark : TraceStep) → move setting a ≡ On 0 (mark ∷ []) b → Pauses setting a

-- it has come to this configuration
abbrev pub IsReached : Progress → Type 0
IsReached p = Reached p.setting (first_level p.contract p.func p.call.args) p.call.fuel p.trace p.used p.config

-- The fuel was out at a level, of which and of those around it so many are left, the innermost first; the outer ones are these.
pub record IsClosing (p : Progress) : Type 0 where
  pub before : List TraceStep
  pub last : Levels
  pub inside : ℕ
  pub reached : Reached p.setting (first_level p.contract p.func p.call.args) p.call.fuel before p.used last
  pub out : p.used ≡ p.call.fuel
  pub charged : IsChargedMove (move p.setting last)
  pub trace_is : p.trace ≡ before ++ replicate inside Dropped
  pub left : length last.outer ≡ inside + length p.config.outer

-- its trace is that of a run with this outcome, and no level is left around
pub record IsWhole (p : Progress) (o : Outcome) : Type 0 where
  pub run : IsRun p.setting (first_level p.contract p.func p.call.args) p.call.fuel p.trace o p.used
  pub outermost : p.config.outer ≡ []

-- what the status says of the configuration
abbrev pub IsAs : Progress → Status → Type 0
IsAs p status.Running = IsReached p × Pauses p.setting p.config
IsAs p (status.Fallen t) = IsReached p × Pauses p.setting p.config
IsAs p (status.Asking op) = IsReached p × IsAsking p.setting p.config op
IsAs p status.Closing = IsClosing p
IsAs p (status.Ended o) = IsWhole p o
IsAs p status.NoMemory = Unit {0}

-- It is on a run of its call over its contracts.
pub record IsOnRun (p : Progress) : Type 0 where
  pub opens : opening p.setting p.call ≡ Opens p.contract p.func
  pub within : p.used ≤ p.call.fuel
  pub is_as : IsAs p p.status

-- Memory was refused, or it is on its run.
abbrev pub IsProgressAt : Progress → Status → Type 0
IsProgressAt p status.NoMemory = Unit {0}
IsProgressAt p _ = IsOnRun p

pub record IsProgress (p : Progress) : Type 0 where
  pub at : IsProgressAt p p.status

-- the same call over the same contracts
pub record IsSameCall (p q : Progress) : Type 0 where
  pub setting : q.setting ≡ p.setting
  pub call : q.call ≡ p.call
  pub contract : q.contract ≡ p.contract
  pub func : q.func ≡ p.func

-- a turn may be made: the host is not asked
abbrev pub IsFree : Status → Type 0
IsFree (status.Asking op) = ⊥
IsFree _ = Unit {0}

-- it goes on, or a level has trapped
abbrev pub GoesOn : Status → Type 0
GoesOn status.Running = Unit {0}
GoesOn (status.Fallen t) = Unit {0}
GoesOn _ = ⊥

-- one charged move and free ones with these marks, up to where a level is left or the turn is at its end
pub record HasMoved (setting : Setting) (a : Levels) (marks : List TraceStep) (b : Levels) : Type 0 where
  pub charged : Levels
  pub one : move setting a ≡ On 1 [] charged
  pub free : FreeMoves setting charged marks b
  pub pauses : Pauses setting b

pub record HasStepped (p q : Progress) : Type 0 where
  pub same : IsSameCall p q
  pub trace : q.trace ≡ p.trace
  pub used : q.used ≡ p.used + 1
  pub depth : depth_of q ≡ depth_of p
  pub turn : HasMoved p.setting p.config [] q.config
  pub goes_on : GoesOn q.status

-- the same, and a level is entered
pub record HasEntered (p q : Progress) : Type 0 where
  pub same : IsSameCall p q
  pub trace : q.trace ≡ p.trace ++ Opened ∷ []
  pub used : q.used ≡ p.used + 1
  pub depth : depth_of q ≡ depth_of p + 1
  pub turn : HasMoved p.setting p.config (Opened ∷ []) q.config
  pub goes_on : GoesOn q.status

-- the charged move of a call of an import, which asks for an operation
pub record HasAsked (p : Progress) (op : Op) (q : Progress) : Type 0 where
  pub same : IsSameCall p q
  pub trace : q.trace ≡ p.trace
  pub used : q.used ≡ p.used + 1
  pub depth : depth_of q ≡ depth_of p
  pub charged : move p.setting p.config ≡ On 1 [] q.config
  pub asking : q.status ≡ status.Asking op

abbrev pub mark_of : (keep : Bool) → TraceStep
mark_of true = Kept
mark_of false = Dropped

-- the innermost level is left, by a free move, and others follow
pub record HasGoneBack (p q : Progress) (keep : Bool) : Type 0 where
  pub free : FreeMoves p.setting p.config (mark_of keep ∷ []) q.config
  pub pauses : Pauses p.setting q.config
  pub goes_on : GoesOn q.status

-- an instruction is to come, or a level was left before for want of fuel
abbrev pub IsToStop : Progress → Status → Type 0
IsToStop p status.Running = IsChargedMove (move p.setting p.config)
IsToStop p status.Closing = Unit {0}
IsToStop p _ = ⊥

-- The fuel is out, and an instruction is to come or a level was left so before; the innermost level is left, and nothing more is done.
pub record HasClosed (p q : Progress) (keep : Bool) : Type 0 where
  pub dropped : keep ≡ false
  pub out : p.used ≡ p.call.fuel
  pub stops : IsToStop p p.status
  pub outer : p.config.outer ≡ q.config.inner ∷ q.config.outer
  pub closing : q.status ≡ status.Closing

-- a level is left, and no turn is made
pub record HasLeft (p : Progress) (keep : Bool) (q : Progress) : Type 0 where
  pub same : IsSameCall p q
  pub trace : q.trace ≡ p.trace ++ mark_of keep ∷ []
  pub used : q.used ≡ p.used
  pub depth : depth_of p ≡ depth_of q + 1
  pub left : HasGoneBack p q keep ⊎ HasClosed p q keep

-- the innermost level with another configuration
abbrev pub with_inner : Levels → Config → Levels
with_inner a x = record { inner = record { contract = a.inner.contract; config = x; answer = a.inner.answer }; outer = a.outer }

-- what is left of it at the end: the same; where levels were left for want of fuel, no more than the state is told
abbrev pub IsLast : Status → Config → Config → Type 0
IsLast status.Closing x y = state_of y ≡ state_of x
IsLast _ x y = y ≡ x

-- a run that went on is at its end; where the fuel was out and levels were left, the last of them may not tell of it
abbrev pub EndsAt : Progress → Outcome → Status → Type 0
EndsAt p o status.Running = Ends p.setting p.call.fuel p.used p.config o []
EndsAt p o (status.Fallen t) = Ends p.setting p.call.fuel p.used p.config o []
EndsAt p o _ = Unit {0}

-- the run has ended, and no turn is made
pub record IsDone (p : Progress) (o : Outcome) (q : Progress) : Type 0 where
  pub same : q ≡ record p { config = with_inner p.config q.config.inner.config; status = status.Ended o }
  pub last : IsLast p.status p.config.inner.config q.config.inner.config
  pub whole : IsWhole p o
  pub ends : EndsAt p o p.status

-- what a turn does, by what it answers
abbrev pub NextIs : Progress → Turn → Progress → Type 0
NextIs p turn.Stepped q = HasStepped p q
NextIs p (turn.Host op) q = HasAsked p op q
NextIs p turn.Enter q = HasEntered p q
NextIs p (turn.Leave keep) q = HasLeft p keep q
NextIs p turn.NoMemory q = q.status ≡ status.NoMemory
NextIs p (turn.Done o) q = IsDone p o q

-- the innermost level is left next, by a free move, since it is at its end or has trapped, and there is one around it
pub record IsLeftNext (p : Progress) : Type 0 where
  pub mark : TraceStep
  pub next : Levels
  pub free : move p.setting p.config ≡ On 0 (mark ∷ []) next

-- ---- out of memory, and what was told before

-- the instruction to come, in the innermost label or frame
abbrev pub instr_in : Seq → Option Instr
instr_in End = None
instr_in (Val v rest) = instr_in rest
instr_in (Code n i rest) = Some i
instr_in (Free i rest) = None
instr_in (Label n at k inside rest) = instr_in inside
instr_in (Frame f n locals inside rest) = instr_in inside
instr_in (Invoke f rest) = None

abbrev pub instr_of : Config → Option Instr
instr_of (Running s seq) = instr_in seq
instr_of (Trap s t) = None

-- An instruction is to come that may take memory, and there is fuel for it.
pub record MayTakeMemory (p : Progress) : Type 0 where
  pub fuel : p.used < p.call.fuel
  pub instr : Instr
  pub to_come : instr_of p.config.inner.config ≡ Some instr
  pub takes : takes_memory instr ≡ true

-- Memory was refused before; or the run goes on, by an instruction that may take memory.
abbrev pub WantsMemory : Progress → Status → Type 0
WantsMemory p status.NoMemory = Unit {0}
WantsMemory p status.Running = MayTakeMemory p
WantsMemory p _ = ⊥

-- what is told at last, with these levels around: that the innermost is left without what it did, or the end
abbrev pub LastIs : Turn → Outcome → List Level → Type 0
LastIs a o [] = a ≡ turn.Done o
LastIs a o (l ∷ outer) = a ≡ turn.Leave false

-- After an end or out of memory the same is told again, and nothing changes. A trap is told once, as the end or as that of its level.
abbrev pub IsToldAt : Progress → Turn → Progress → Status → Type 0
IsToldAt p a q (status.Ended o) = (a ≡ turn.Done o) × (q ≡ p)
IsToldAt p a q (status.Fallen t) = LastIs a (Trapped t) p.config.outer
IsToldAt p a q status.Closing = LastIs a OutOfFuel p.config.outer
IsToldAt p a q status.NoMemory = (a ≡ turn.NoMemory) × (q ≡ p)
IsToldAt p a q _ = Unit {0}

abbrev pub IsTold : Progress → Turn → Progress → Type 0
IsTold p a q = IsToldAt p a q p.status

-- the host was asked for an operation that may get this reply
abbrev pub IsAwaited : Status → Reply → Type 0
IsAwaited (status.Asking op) r = IsReply op r
IsAwaited _ r = ⊥

-- The reply is the last step of the trace, and the free reductions that follow it are made.
pub record HasReplied (p : Progress) (op : Op) (r : Reply) (q : Progress) : Type 0 where
  pub same : IsSameCall p q
  pub trace : q.trace ≡ p.trace ++ Did op r ∷ []
  pub used : q.used ≡ p.used
  pub depth : depth_of q ≡ depth_of p
  pub asked : IsAsking p.setting p.config op
  pub frees : FreeMoves p.setting (asked.go r) [] q.config
  pub pauses : Pauses p.setting q.config
  pub running : q.status ≡ status.Running

abbrev pub AnsweredAt : Progress → Reply → Progress → Status → Type 0
AnsweredAt p r q (status.Asking op) = HasReplied p op r q
AnsweredAt p r q _ = ⊥

abbrev pub HasAnswered : Progress → Reply → Progress → Type 0
HasAnswered p r q = AnsweredAt p r q p.status

-- what a machine that has ended gives
pub record IsFinishOf (p : Progress) (f : Played) : Type 0 where
  pub setting : f.setting ≡ p.setting
  pub call : f.call ≡ p.call
  pub trace : f.trace ≡ p.trace
  pub used : f.used ≡ p.used
  pub ended : p.status ≡ status.Ended f.outcome

-- its run, with this outcome
abbrev pub played_of : Progress → Outcome → Played
played_of p o = record { setting = p.setting; call = p.call; trace = p.trace; outcome = o; used = p.used }

-- what the call of a machine that has ended came to
pub record IsReceiptOf (p : Progress) (r : Receipt) : Type 0 where
  pub ended : p.status ≡ status.Ended r.outcome
  pub played : IsPlayed (played_of p r.outcome)
  pub receipt : r ≡ receipt_of (played_of p r.outcome)

abbrev pub IsUnfinished : Status → Type 0
IsUnfinished (status.Ended o) = ⊥
IsUnfinished _ = Unit {0}

-- the machine of a call, before the first turn: the opening's free reductions are made
pub record IsStartOf (lent : Setting) (call : ContractCall) (p : Progress) : Type 0 where
  pub setting : p.setting ≡ lent
  pub call_is : p.call ≡ call
  pub trace : p.trace ≡ []
  pub used : p.used ≡ 0
  pub frees : FreeMoves p.setting (first_level p.contract p.func p.call.args) [] p.config
  pub at_rest : Rests p.setting p.config
  pub goes_on : GoesOn p.status
