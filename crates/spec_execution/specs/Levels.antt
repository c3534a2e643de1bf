-- Levels: a contract asks another one, which runs on a fresh instance, on the same fuel (own).
use Rattle.std.specs.Prelude.{◌≡◌, ℕ, ◌+◌, ◌≤◌, ℤ, pos, nat_lt, if◌then◌else◌, List, [], ◌∷◌, ◌++◌, length, replicate, Option, Some, None, option_map, slice_get}
use Rattle.wtypes.specs.declared.ValType.TheVariants.{I64}
use Rattle.wtypes.specs.declared.Value.{Value}
use Rattle.wtypes.specs.declared.Value.TheVariants as value
use Rattle.wtypes.specs.declared.TrapCode.{TrapCode}
use Rattle.spec_ledger.specs.declared.Version.{Version}
use Rattle.wtypes.specs.declared.TrapCode.TheVariants as trap
use Rattle.spec_modules.specs.Syntax.{FuncType, ExportDesc, ExportFunc}
use Rattle.spec_ledger.specs.declared.Op.{Op}
use Rattle.spec_ledger.specs.declared.Reply.{Reply}
use Rattle.spec_ledger.specs.declared.Reply.TheVariants as reply
use Rattle.spec_ledger.specs.declared.TraceStep.{TraceStep}
use Rattle.spec_ledger.specs.declared.TraceStep.TheVariants.{Did, Opened, Kept, Dropped}
use Rattle.spec_ledger.specs.declared.Outcome.{Outcome}
use Rattle.spec_ledger.specs.declared.Outcome.TheVariants.{Returned, Trapped, OutOfFuel, Rejected}
use Rattle.spec_execution.specs.Configuration.{Setting, Deployed, Contract, Function, Defined, function_at, Seq, State, Config, Running, Trap}
use Rattle.spec_execution.specs.Reduction.{HostEffect, Of, Ask, Answer, Next, Goes, Traps, Asks, Ended, same_function_type}
use Rattle.spec_execution.specs.Run.{next, IsReply, result_of, ContractCall, Opening, Refused, Opens, opening, first}

-- ---- what an `ask` leads to

-- the outer call is level 0; at this level nothing may be asked
abbrev pub level_limit : ℕ
level_limit = 4

abbrev pub ask_type : FuncType
ask_type = record { params = I64 ∷ []; results = I64 ∷ [] }

-- the number of a trap in receipts, and its status
abbrev pub trap_status : TrapCode → ℕ
trap_status trap.Unreachable = 1
trap_status trap.DivideByZero = 2
trap_status trap.IntegerOverflow = 3
trap_status trap.MemoryOutOfBounds = 4
trap_status trap.ElementOutOfTable = 5
trap_status trap.EmptyElement = 6
trap_status trap.TypeMismatch = 7
trap_status trap.CallDepth = 8

abbrev pub by_asked_function : Contract → ℕ → Option Function → Opening
by_asked_function c f (Some (Defined t g)) = if same_function_type t ask_type then Opens c f else Refused 10
by_asked_function c f _ = Refused 10

abbrev pub by_asked_export : Contract → Option ExportDesc → Opening
by_asked_export c (Some (ExportFunc f)) = by_asked_function c f (function_at c.deployed f)
by_asked_export c _ = Refused 10

abbrev pub by_asked_contract : Version → (number export : ℕ) → Option Deployed → Opening
by_asked_contract version n e None = Refused 10
by_asked_contract version n e (Some d) = by_asked_export (record { number = n; deployed = d; version = version }) (option_map (λ x. x.desc) (slice_get d.tree.exports e))

-- the depth is tested first
abbrev pub asked : Setting → (level number export : ℕ) → Opening
asked setting level n e = if nat_lt level level_limit then by_asked_contract setting.version n e (slice_get setting.contracts n) else Refused 11

-- ---- configurations

-- a level: its contract, its configuration, and what `answer` gives there
pub record Level : Type 0 where
  pub contract : Contract
  pub config : Config
  pub answer : ℤ

-- the innermost level, and those around it, the innermost of these first
pub record Levels : Type 0 where
  pub inner : Level
  pub outer : List Level

abbrev pub no_answer : ℤ
no_answer = pos 0

-- the number of a value
abbrev pub signed_of : Value → ℤ
signed_of (value.I32 x) = x
signed_of (value.I64 x) = x

abbrev pub fresh_level : Contract → ℕ → List Value → Level
fresh_level c func args = record { contract = c; config = first c func args; answer = no_answer }

-- a level with no other one around it, that has asked for nothing
abbrev pub alone : Contract → Config → Levels
alone c x = record { inner = record { contract = c; config = x; answer = no_answer }; outer = [] }

-- the first configuration of a call
abbrev pub first_level : Contract → ℕ → List Value → Levels
first_level c func args = alone c (first c func args)

abbrev pub running : Level → State → Seq → Level
running l s q = record { contract = l.contract; config = Running s q; answer = l.answer }

abbrev pub told : Level → State → Seq → ℤ → Level
told l s q answer = record { contract = l.contract; config = Running s q; answer = answer }

-- ---- what a configuration does next

pub data Move : Type 0 where
  -- it becomes this one, with these marks
  On : (charge : ℕ) (marks : List TraceStep) → Levels → Move
  -- it asks for an operation
  Host : Op → (Reply → Levels) → Move
  -- it is at its end
  Over : Outcome → Move
  Nowhere : Move

-- the level around goes on with a status, where it waits for one
abbrev pub back_by : Level → List Level → State → (status : ℕ) (answer : ℤ) (mark : TraceStep) → Next → Move
back_by l outer s status answer mark (Asks (Ask n e x) go) = On 0 (mark ∷ []) (record { inner = told l s (go (reply.I32 (pos status))) answer; outer = outer })
back_by l outer s status answer mark _ = Nowhere

abbrev pub back_to : Level → List Level → (status : ℕ) (answer : ℤ) (mark : TraceStep) → Config → Move
back_to l outer status answer mark (Running s q) = back_by l outer s status answer mark (next l.contract s q)
back_to l outer status answer mark (Trap s t) = Nowhere

-- the innermost level has ended with these values: so ends the call, or the level is left
abbrev pub returned : List Value → List Level → Move
returned vs [] = Over (Returned (result_of vs))
returned (v ∷ []) (l ∷ outer) = back_to l outer 0 (signed_of v) Kept l.config
returned vs (l ∷ outer) = Nowhere

abbrev pub fallen : TrapCode → List Level → Move
fallen t [] = Over (Trapped t)
fallen t (l ∷ outer) = back_to l outer (trap_status t) no_answer Dropped l.config

-- a level is entered, or not, for the cause that the status tells
abbrev pub entering : Level → List Level → State → (Reply → Seq) → ℤ → Opening → Move
entering l outer s go x (Opens c f) = On 0 (Opened ∷ []) (record { inner = fresh_level c f (value.I64 x ∷ []); outer = l ∷ outer })
entering l outer s go x (Refused status) = On 0 [] (record { inner = told l s (go (reply.I32 (pos status))) no_answer; outer = outer })

module _ (setting : Setting) where
  -- a wish: `ask` and `answer` go on by themselves
  abbrev pub wished : Level → List Level → State → HostEffect → (Reply → Seq) → Move
  wished l outer s (Of op) go = Host op (λ r. record { inner = running l s (go r); outer = outer })
  wished l outer s (Ask n e x) go = entering l outer s go x (asked setting (length outer) n e)
  wished l outer s Answer go = On 0 [] (record { inner = running l s (go (reply.I64 l.answer)); outer = outer })

  abbrev pub by_next : Level → List Level → State → Next → Move
  by_next l outer s (Goes charge s' q) = On charge [] (record { inner = running l s' q; outer = outer })
  by_next l outer s (Traps charge t) = On charge [] (record { inner = record { contract = l.contract; config = Trap s t; answer = l.answer }; outer = outer })
  by_next l outer s (Asks w go) = wished l outer s w go
  by_next l outer s (Ended vs) = returned vs outer
  by_next l outer s _ = Nowhere

  abbrev pub by_config : Level → List Level → Config → Move
  by_config l outer (Running s q) = by_next l outer s (next l.contract s q)
  by_config l outer (Trap s t) = fallen t outer

  -- the innermost level does what comes next
  abbrev pub move : Levels → Move
  move c = by_config c.inner c.outer c.inner.config

-- an instruction of the code is to come
abbrev pub IsChargedMove : Move → Type 0
IsChargedMove (On charge marks c) = charge ≡ 1
IsChargedMove _ = ⊥

-- ---- runs

-- From a first configuration, within a limit of fuel: after this trace, with so much fuel used, the configuration is this one.
pub data Reached (setting : Setting) (start : Levels) (limit : ℕ) : List TraceStep → ℕ → Levels → Type 0 where
  at_first : Reached setting start limit [] 0 start
  moved : (trace : List TraceStep) (used : ℕ) (a : Levels) (charge : ℕ) (marks : List TraceStep) (b : Levels) → Reached setting start limit trace used a → move setting a ≡ On charge marks b → used + charge ≤ limit → Reached setting start limit (trace ++ marks) (used + charge) b
  replied : (trace : List TraceStep) (used : ℕ) (a : Levels) (op : Op) (go : Reply → Levels) (r : Reply) → Reached setting start limit trace used a → move setting a ≡ Host op go → IsReply op r → Reached setting start limit (trace ++ Did op r ∷ []) used (go r)

-- levels that are open at the end are left without what they did
abbrev pub closing : Levels → List TraceStep
closing c = replicate (length c.outer) Dropped

-- A run that has come to this configuration, with so much fuel used, is at its end, with this outcome and these last marks.
pub data Ends (setting : Setting) (limit : ℕ) : ℕ → Levels → Outcome → List TraceStep → Type 0 where
  over : (used : ℕ) (c : Levels) (outcome : Outcome) → move setting c ≡ Over outcome → Ends setting limit used c outcome []
  -- the limit is used up and an instruction is to come, at whatever level
  exhausted : (c : Levels) → IsChargedMove (move setting c) → Ends setting limit limit c OutOfFuel (closing c)

pub record IsRun (setting : Setting) (start : Levels) (limit : ℕ) (trace : List TraceStep) (outcome : Outcome) (fuel : ℕ) : Type 0 where
  pub before : List TraceStep
  pub last : Levels
  pub marks : List TraceStep
  pub reached : Reached setting start limit before fuel last
  pub ends : Ends setting limit fuel last outcome marks
  pub trace_is : trace ≡ before ++ marks

-- No configuration that is reached is stuck.
abbrev pub IsSafe : Setting → Levels → ℕ → Type 0
IsSafe setting start limit = (trace : List TraceStep) (used : ℕ) (c : Levels) → Reached setting start limit trace used c → move setting c ≡ Nowhere → ⊥

-- The call has this run in this setting.
pub data RunsWith (setting : Setting) (call : ContractCall) : List TraceStep → Outcome → ℕ → Type 0 where
  refused : (code : ℕ) → opening setting call ≡ Refused code → RunsWith setting call [] (Rejected code) 0
  ran : (c : Contract) (func : ℕ) (trace : List TraceStep) (outcome : Outcome) (fuel : ℕ) → opening setting call ≡ Opens c func → IsRun setting (first_level c func call.args) call.fuel trace outcome fuel → RunsWith setting call trace outcome fuel

-- the levels that were entered
abbrev pub asks_in : List TraceStep → ℕ
asks_in [] = 0
asks_in (Opened ∷ t) = 1 + asks_in t
asks_in (Did op r ∷ t) = asks_in t
asks_in (Kept ∷ t) = asks_in t
asks_in (Dropped ∷ t) = asks_in t
