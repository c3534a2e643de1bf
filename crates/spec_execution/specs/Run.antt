-- Reductions, the host's replies, and calls with their first configurations.
use Rattle.std.specs.Prelude.{◌≡◌, ℕ, ◌+◌, ℤ, ◌==◌, if◌then◌else◌, List, [], ◌∷◌, length, Option, Some, None, slice_get, FitsSigned, bytes_eq, option_map}
use Rattle.std.specs.Int.{w32, w64}
use Rattle.wtypes.specs.declared.ValType.{ValType}
use Rattle.wtypes.specs.declared.Value.{Value}
use Rattle.wtypes.specs.declared.TrapCode.{TrapCode}
use Rattle.spec_ledger.specs.declared.Version.{Version}
use Rattle.spec_modules.specs.Syntax.{Name, Export, ExportDesc, ExportFunc}
use Rattle.spec_ledger.specs.declared.CellKey.{CellKey}
use Rattle.spec_ledger.specs.declared.Op.{Op}
use Rattle.spec_ledger.specs.declared.Op.TheVariants.{Get, Has, Put, Del, Add, Total}
use Rattle.spec_ledger.specs.declared.Reply.{Reply}
use Rattle.spec_ledger.specs.declared.Reply.TheVariants as reply
use Rattle.spec_modules.specs.Operators.{same_type, type_of}
use Rattle.spec_execution.specs.Configuration.{Setting, Deployed, Contract, Function, Defined, function_at, Seq, End, Invoke, arguments, State, Config, Running, Trap, fresh}
use Rattle.spec_execution.specs.Reduction.{HostEffect, Of, Ask, Answer, Next, Goes, Traps, Branches, Returns, Stuck, reduce}

-- ---- reductions

-- what a sequence does next: in no frame, with no value before it
abbrev pub next : Contract → State → Seq → Next
next c s seq = reduce c 0 s [] seq

-- An instruction of the code is to come.
abbrev pub IsCharged : Next → Type 0
IsCharged (Goes charge s seq) = charge ≡ 1
IsCharged (Traps charge t) = charge ≡ 1
IsCharged _ = ⊥

-- Nothing comes next, and it is no end: a branch or a return out of everything is none.
abbrev pub IsStuck : Next → Type 0
IsStuck (Branches charge l vs) = Unit {0}
IsStuck (Returns charge vs) = Unit {0}
IsStuck Stuck = Unit {0}
IsStuck _ = ⊥

-- a reduction of a configuration, with its charge
pub data Reduces (c : Contract) : Config → ℕ → Config → Type 0 where
  goes : (s : State) (seq : Seq) (charge : ℕ) (s' : State) (seq' : Seq) → next c s seq ≡ Goes charge s' seq' → Reduces c (Running s seq) charge (Running s' seq')
  traps : (s : State) (seq : Seq) (charge : ℕ) (t : TrapCode) → next c s seq ≡ Traps charge t → Reduces c (Running s seq) charge (Trap s t)

-- the replies that an operation may get
pub data IsReply : Op → Reply → Type 0 where
  to_get : (p : CellKey) (x : ℤ) → FitsSigned w64 x → IsReply (Get p) (reply.I64 x)
  to_has : (p : CellKey) (x : ℤ) → FitsSigned w32 x → IsReply (Has p) (reply.I32 x)
  to_put : (p : CellKey) (v : ℕ) → IsReply (Put p v) reply.Nothing
  to_del : (p : CellKey) (x : ℤ) → FitsSigned w32 x → IsReply (Del p) (reply.I32 x)
  to_add : (p : CellKey) (v : ℕ) → IsReply (Add p v) reply.Nothing
  to_total : (p : CellKey) (x : ℤ) → FitsSigned w64 x → IsReply (Total p) (reply.I64 x)

-- the replies that a wish may get
abbrev pub IsAnswer : HostEffect → Reply → Type 0
IsAnswer (Of op) r = IsReply op r
IsAnswer (Ask n e x) (reply.I32 status) = Unit {0}
IsAnswer (Ask n e x) _ = ⊥
IsAnswer Answer (reply.I64 x) = Unit {0}
IsAnswer Answer _ = ⊥

-- the value of a result
abbrev pub result_of : List Value → Option Value
result_of [] = None
result_of (v ∷ vs) = Some v

-- ---- calls

pub record ContractCall : Type 0 where
  pub contract : ℕ
  pub entry : Name
  pub args : List Value
  pub fuel : ℕ

-- whether a call starts: not, for the cause of this number; or with this function of this contract
pub data Opening : Type 0 where
  Refused : (code : ℕ) → Opening
  Opens : Contract → (func : ℕ) → Opening

-- what is exported under a name
abbrev pub exported : Name → List Export → Option ExportDesc
exported name [] = None
exported name (e ∷ es) = if bytes_eq name e.name then Some e.desc else exported name es

-- the least argument that is not of its parameter's type
abbrev pub wrong_argument : List ValType → List Value → Option ℕ
wrong_argument (t ∷ ts) (v ∷ vs) = if same_type t (type_of v) then option_map (λ n. n + 1) (wrong_argument ts vs) else Some 0
wrong_argument ts vs = None

abbrev pub by_wrong : Contract → ℕ → Option ℕ → Opening
by_wrong c f None = Opens c f
by_wrong c f (Some n) = Refused 4

-- a function of the module, and no import; then the number of arguments, then their types
abbrev pub by_function : Contract → ℕ → List Value → Option Function → Opening
by_function c f args (Some (Defined t g)) = if length args == length t.params then by_wrong c f (wrong_argument t.params args) else Refused 3
by_function c f args _ = Refused 2

abbrev pub by_export : Contract → List Value → Option ExportDesc → Opening
by_export c args None = Refused 1
by_export c args (Some (ExportFunc f)) = by_function c f args (function_at c.deployed f)
by_export c args (Some _) = Refused 2

abbrev pub by_contract : Version → ContractCall → Option Deployed → Opening
by_contract version call None = Refused 6
by_contract version call (Some d) = by_export (record { number = call.contract; deployed = d; version = version }) call.args (exported call.entry d.tree.exports)

abbrev pub opening : Setting → ContractCall → Opening
opening setting call = by_contract setting.version call (slice_get setting.contracts call.contract)

-- the start function first, if there is one
abbrev pub after_start : Option ℕ → Seq → Seq
after_start None rest = rest
after_start (Some f) rest = Invoke f rest

-- the first configuration: a fresh instance, in which the start function is invoked and then the entry
abbrev pub first : Contract → ℕ → List Value → Config
first c func args = Running (fresh c.deployed.tree) (after_start c.deployed.tree.start (arguments args (Invoke func End)))
