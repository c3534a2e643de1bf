-- What the fields of a machine keep.
use Rattle.std.specs.Prelude.{◌≡◌, ◌≢◌, ℕ, ℤ, Bool, ◌+◌, ◌-◌, ◌≤◌, ◌<◌, List, [], ◌∷◌, ◌++◌, take, length, replicate, Vec, vec_len, vec_capacity}
use Rattle.wtypes.specs.declared.Value.{Value}
use Rattle.wtypes.specs.declared.Value.TheVariants as value
use Rattle.wtypes.specs.declared.TrapCode.{TrapCode}
use Rattle.spec_ledger.specs.declared.Op.{Op}
use Rattle.spec_ledger.specs.declared.Op.TheVariants.{Get, Has, Put, Del, Add, Total}
use Rattle.spec_ledger.specs.declared.Reply.{Reply}
use Rattle.spec_ledger.specs.declared.Reply.TheVariants as reply
use Rattle.spec_ledger.specs.declared.TraceStep.{TraceStep}
use Rattle.spec_ledger.specs.declared.TraceStep.TheVariants.{Opened, Dropped}
use Rattle.spec_ledger.specs.declared.Outcome.{Outcome}
use Rattle.spec_ledger.specs.declared.Outcome.TheVariants.{Returned, Trapped, OutOfFuel, Rejected}
use Rattle.spec_execution.specs.Configuration.{Setting, Contract, Seq, End, Config, Running, Trap, fresh}
use Rattle.spec_execution.specs.Reduction.{Of, Asks, replied}
use Rattle.spec_execution.specs.Run.{ContractCall, opening, Opens, next, after_start}
use Rattle.spec_execution.specs.Levels.{Level, Levels, move, back_to, first_level, IsChargedMove, Reached, IsRun, IsSafe}
use Rattle.spec_execution.specs.Turns.{Frees, IsAtRest}
use Rattle.interp.specs.declared.turns.Status.{Status}
use Rattle.interp.specs.declared.turns.Status.TheVariants as status
use Rattle.interp.specs.declared.turns.Turn.{Turn}
use Rattle.interp.specs.declared.turns.Turn.TheVariants as turn
use Rattle.laws_reduction.specs.Meaning.{View, height, whole, listed, config, calling, invoking, state, IsOrdered, IsReady}
use Rattle.interp.specs.Progress.{Progress, Pauses, IsSameCall, GoesOn, IsToStop, mark_of}
use Rattle.spec_execution.specs.CallStates.{FreeMoves}
use Rattle.laws_reduction.specs.Tails.{with_tail}

-- the parts of a machine in the words of the definitions
pub record Seen : Type 0 where
  pub setting : Setting
  pub call : ContractCall
  -- the contract that is called, and the number of the function
  pub first : Contract
  pub func : ℕ
  pub trace : List TraceStep
  pub used : ℕ
  -- the innermost level: its contract, its parts, what waits behind all that is open there, and what `answer` gives
  pub contract : Contract
  pub view : View
  pub tail : Seq
  pub answer : ℤ
  -- the levels around it
  pub outer : List Level
  pub status : Status
  -- the number of the import that is called, while the host is asked
  pub asked : ℕ

abbrev pub on : Seen → Status → Seen
on s x = record s { status = x }

abbrev pub first_of : Seen → Levels
first_of s = first_level s.first s.func s.call.args

abbrev pub ended_at : View → Outcome → Config
ended_at v (Trapped t) = Trap (state v) t
ended_at v (Returned r) = config v
ended_at v OutOfFuel = config v
ended_at v (Rejected code) = config v

abbrev pub config_at : View → ℕ → Status → Config
config_at v f status.Running = config v
config_at v f (status.Fallen t) = Trap (state v) t
config_at v f (status.Asking op) = calling v f
config_at v f status.Closing = calling v f
config_at v f (status.Ended o) = ended_at v o
config_at v f status.NoMemory = config v

-- its innermost level with this configuration, among the others
abbrev pub levels : Seen → Config → Levels
levels s x = record { inner = record { contract = s.contract; config = x; answer = s.answer }; outer = s.outer }

-- the configuration of its innermost level
abbrev pub config_of : Seen → Config
config_of s = with_tail s.tail (config_at s.view s.asked s.status)

abbrev pub progress : Seen → Progress
progress s = record { setting = s.setting; call = s.call; contract = s.first; func = s.func; trace = s.trace; used = s.used; config = levels s (config_of s); status = s.status }

abbrev pub Reaches : Seen → Config → Type 0
Reaches s x = Reached s.setting (first_of s) s.call.fuel s.trace s.used (levels s (with_tail s.tail x))

-- how many arguments an operation takes
abbrev pub params_of : Op → ℕ
params_of (Get p) = 1
params_of (Has p) = 1
params_of (Put p v) = 2
params_of (Del p) = 1
params_of (Add p v) = 2
params_of (Total p) = 1

-- the sequence that a reply leads to: without the operation's arguments, and with the reply's value
abbrev pub going_on : View → Op → Reply → Seq
going_on v op r = whole v.entries (take (length v.stack - params_of op) v.stack) v.locals (replied r (listed v.code End))

abbrev pub value_of_reply : Reply → List Value
value_of_reply reply.Nothing = []
value_of_reply (reply.I32 x) = value.I32 x ∷ []
value_of_reply (reply.I64 x) = value.I64 x ∷ []

-- a run that goes on
pub record IsLive (s : Seen) : Type 0 where
  pub reached : Reaches s (config s.view)
  pub ordered : IsOrdered s.view
  pub ready : IsReady s.view
  pub last : s.view.code ≡ [] → s.tail ≡ End
  pub within : s.used ≤ s.call.fuel

-- a run that trapped
pub record IsFallen (s : Seen) (t : TrapCode) : Type 0 where
  pub reached : Reaches s (Trap (state s.view) t)
  pub within : s.used ≤ s.call.fuel

-- a run that waits for the host
pub record IsWaiting (s : Seen) (op : Op) : Type 0 where
  pub reached : Reaches s (calling s.view s.asked)
  pub ordered : IsOrdered s.view
  pub within : s.used ≤ s.call.fuel
  pub room : height s.view.entries + params_of op ≤ length s.view.stack
  pub asks : next s.contract (state s.view) (invoking s.view s.asked) ≡ Asks (Of op) (going_on s.view op)

-- where it returned, no code is left
abbrev pub IsAtEnd : Seen → Outcome → Type 0
IsAtEnd s (Returned r) = IsLive s × (s.view.code ≡ [])
IsAtEnd s _ = Unit {0}

-- a run whose fuel was out at a level, of which and of those around it so many are left
pub record IsShut (s : Seen) : Type 0 where
  pub before : List TraceStep
  pub last : Levels
  pub inside : ℕ
  pub reached : Reached s.setting (first_of s) s.call.fuel before s.used last
  pub out : s.used ≡ s.call.fuel
  pub charged : IsChargedMove (move s.setting last)
  pub trace_is : s.trace ≡ before ++ replicate inside Dropped
  pub left : length last.outer ≡ inside + length s.outer

-- a run that has ended
pub record IsOver (s : Seen) (o : Outcome) : Type 0 where
  pub run : IsRun s.setting (first_of s) s.call.fuel s.trace o s.used
  pub outermost : s.outer ≡ []
  pub within : s.used ≤ s.call.fuel
  pub at_end : IsAtEnd s o

abbrev pub IsAt : Seen → Status → Type 0
IsAt s status.Running = IsLive s
IsAt s (status.Fallen t) = IsFallen s t
IsAt s (status.Asking op) = IsWaiting s op
IsAt s status.Closing = IsShut s
IsAt s (status.Ended o) = IsOver s o
IsAt s status.NoMemory = Unit {0}

-- what each machine keeps
pub record IsMachine (s : Seen) : Type 0 where
  pub opens : opening s.setting s.call ≡ Opens s.first s.func
  pub safe : IsSafe s.setting (first_of s) s.call.fuel
  pub at : IsAt s s.status

-- A call of a function is to come, which was charged or opens the run.
pub record IsCalling (s : Seen) (f : ℕ) : Type 0 where
  pub opens : opening s.setting s.call ≡ Opens s.first s.func
  pub safe : IsSafe s.setting (first_of s) s.call.fuel
  pub reached : Reaches s (calling s.view f)
  pub ordered : IsOrdered s.view
  pub within : s.used ≤ s.call.fuel

-- the same call, trace and fuel
pub record IsSame (s t : Seen) : Type 0 where
  pub setting : t.setting ≡ s.setting
  pub call : t.call ≡ s.call
  pub first : t.first ≡ s.first
  pub func : t.func ≡ s.func
  pub trace : t.trace ≡ s.trace
  pub used : t.used ≡ s.used
  pub contract : t.contract ≡ s.contract
  pub answer : t.answer ≡ s.answer
  pub outer : t.outer ≡ s.outer

-- what comes of a call of a function of the module: free reductions, until an instruction is to come or the run has ended
pub record IsStarted (s : Seen) (f : ℕ) (t : Seen) : Type 0 where
  pub same : IsSame s t
  pub frees : Frees s.contract (with_tail s.tail (calling s.view f)) (config_of t)
  pub at_rest : IsAtRest s.contract (config_of t)
  pub goes_on : GoesOn t.status

abbrev pub HasStarted : Seen → ℕ → Turn → Seen → Type 0
HasStarted s f turn.Stepped t = IsStarted s f t
HasStarted s f turn.NoMemory t = t.status ≡ status.NoMemory
HasStarted s f _ t = ⊥

-- the first configuration of a level, where what waits is its entry
abbrev pub first_config : Seen → Config
first_config s = Running (fresh s.contract.deployed.tree) (after_start s.contract.deployed.tree.start s.tail)

-- what comes of the beginning of a level: free reductions of its first configuration
pub record IsBegunAs (s t : Seen) : Type 0 where
  pub same : IsSame s t
  pub frees : Frees s.contract (first_config s) (config_of t)
  pub at_rest : IsAtRest s.contract (config_of t)
  pub goes_on : GoesOn t.status

abbrev pub HasBegun : Seen → Turn → Seen → Type 0
HasBegun s turn.Stepped t = IsBegunAs s t
HasBegun s turn.NoMemory t = t.status ≡ status.NoMemory
HasBegun s _ t = ⊥

-- what comes of a call of an import that works on a cell: the host is asked
pub record IsAskedFor (s : Seen) (f : ℕ) (op : Op) (t : Seen) : Type 0 where
  pub same : IsSame s t
  pub config : config_of t ≡ with_tail s.tail (calling s.view f)
  pub asking : t.status ≡ status.Asking op

-- what comes of another one: free moves with these marks
pub record HasGoneOn (s : Seen) (f : ℕ) (marks : List TraceStep) (t : Seen) : Type 0 where
  pub call : IsSameCall (progress s) (progress t)
  pub trace : t.trace ≡ s.trace ++ marks
  pub used : t.used ≡ s.used
  pub depth : length t.outer ≡ length s.outer + length marks
  pub free : FreeMoves s.setting (levels s (with_tail s.tail (calling s.view f))) marks (progress t).config
  pub pauses : Pauses s.setting (progress t).config
  pub goes_on : GoesOn t.status

abbrev pub HasAskedFor : Seen → ℕ → Turn → Seen → Type 0
HasAskedFor s f turn.NoMemory t = t.status ≡ status.NoMemory
HasAskedFor s f (turn.Host op) t = IsAskedFor s f op t
HasAskedFor s f turn.Stepped t = HasGoneOn s f [] t
HasAskedFor s f turn.Enter t = HasGoneOn s f (Opened ∷ []) t
HasAskedFor s f _ t = ⊥

-- The innermost level is left: the next move, which is free, is that of the one around, with this status and this answer.
pub record IsLeaving (s : Seen) (status : ℕ) (answer : ℤ) (keep : Bool) : Type 0 where
  pub around : Level
  pub others : List Level
  pub outer : s.outer ≡ around ∷ others
  pub next : move s.setting (levels s (config_of s)) ≡ back_to around others status answer (mark_of keep) around.config
  pub opens : opening s.setting s.call ≡ Opens s.first s.func
  pub safe : IsSafe s.setting (first_of s) s.call.fuel
  pub reached : Reached s.setting (first_of s) s.call.fuel s.trace s.used (levels s (config_of s))
  pub within : s.used ≤ s.call.fuel

-- The fuel is out at the innermost level, or was at one inside it, and there is one around.
pub record IsToClose (s : Seen) : Type 0 where
  pub shut : IsShut s
  pub some : s.outer ≢ []
  pub stops : IsToStop (progress s) s.status

-- a place for the mark of each level that is open is kept, and one for the step while the host is asked
abbrev pub HasRoom : {A : Type 0} → Status → (depth : ℕ) → Vec TraceStep A → Type 0
HasRoom (status.Asking op) depth trace = vec_len trace + depth < vec_capacity trace
HasRoom status.NoMemory depth trace = Unit {0}
HasRoom _ depth trace = vec_len trace + depth ≤ vec_capacity trace
