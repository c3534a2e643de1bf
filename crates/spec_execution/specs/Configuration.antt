-- Contracts and configurations (Core 4.2, Runtime Structure): globals, memory, the table, and one instruction sequence.
use Rattle.std.specs.Prelude.{ℕ, ◌+◌, ◌-◌, ◌*◌, List, [], ◌∷◌, length, map, replicate, Option, Some, None, nat_lt, if◌then◌else◌, slice_get, option_map, option_and_then}
use Rattle.wtypes.specs.declared.ValType.TheVariants.{I32}
use Rattle.wtypes.specs.declared.Value.{Value}
use Rattle.wtypes.specs.declared.PlainInstr.TheVariants.{Const}
use Rattle.wtypes.specs.declared.TrapCode.{TrapCode}
use Rattle.spec_modules.specs.Syntax.{Instr, Plain, Instrs, nothing, seq, FuncType, Func, Limits, Element, DataSegment, Module}
use Rattle.spec_modules.specs.Shape.{instr_preorder}
use Rattle.wtypes.specs.declared.HostCall.{HostCall}
use Rattle.spec_ledger.specs.declared.Version.{Version}
use Rattle.spec_modules.specs.Profile.{page_size, host_type}
use Rattle.spec_modules.specs.Operators.{value_of, bits_of}
use Rattle.spec_modules.specs.Memory.{written}

-- ---- contracts

-- a module with the host's call that each of its imports names
pub record Deployed : Type 0 where
  pub tree : Module
  pub hosts : List HostCall

-- what calls run over: the contracts, and the version whose rules hold
pub record Setting : Type 0 where
  pub contracts : List Deployed
  pub version : Version

-- a deployed module with its number, and the version whose rules it runs by
pub record Contract : Type 0 where
  pub number : ℕ
  pub deployed : Deployed
  pub version : Version

-- a function: the host's, or the module's with its type
pub data Function : Type 0 where
  Hosted : HostCall → Function
  Defined : FuncType → Func → Function

abbrev pub defined : Module → Func → Option Function
defined m f = option_map (λ t. Defined t f) (slice_get m.types f.type_index)

-- imports are numbered first
abbrev pub function_at : Deployed → ℕ → Option Function
function_at d n =
    if nat_lt n (length d.hosts) then option_map Hosted (slice_get d.hosts n)
    else option_and_then (defined d.tree) (slice_get d.tree.funcs (n - length d.hosts))

abbrev pub function_type : Function → FuncType
function_type (Hosted h) = host_type h
function_type (Defined t f) = t

-- ---- sequences

-- An instruction sequence (4.2.13, Administrative Instructions): an item, then the rest. Values, labels and frames stand in it.
-- Each instruction of the code has its ordinal in its function, and each frame the number of its function: these give the place and take no part in the reduction.
pub data Seq : Type 0 where
  End : Seq
  Val : Value → Seq → Seq
  -- an instruction of the code
  Code : (ordinal : ℕ) → Instr → Seq → Seq
  -- an instruction that one of the code has become
  Free : Instr → Seq → Seq
  -- its arity, its continuation with the ordinal that this begins at, and the sequence inside
  Label : (arity ordinal : ℕ) (continuation : Instrs) (inside : Seq) → Seq → Seq
  -- its function, its arity, its locals, and the sequence inside
  Frame : (func arity : ℕ) (locals : List Value) (inside : Seq) → Seq → Seq
  Invoke : (func : ℕ) → Seq → Seq

-- how many ordinals an instruction has
abbrev pub instr_size : Instr → ℕ
instr_size i = length (instr_preorder i)

-- instructions of the code, numbered in preorder, then the rest
abbrev pub code : ℕ → Instrs → Seq → Seq
code n nothing rest = rest
code n (seq i is) rest = Code n i (code (n + instr_size i) is rest)

-- values, the topmost first, then the rest
abbrev pub values : List Value → Seq → Seq
values [] rest = rest
values (v ∷ vs) rest = values vs (Val v rest)

-- values in order, then the rest
abbrev pub arguments : List Value → Seq → Seq
arguments [] rest = rest
arguments (v ∷ vs) rest = Val v (arguments vs rest)

-- ---- the state

-- what a reduction may change beside the sequence; the locals are those of the frame around
pub record State : Type 0 where
  pub globals : List Value
  pub memory : List ℕ
  pub table : List (Option ℕ)
  pub locals : List Value

-- a configuration: a state and a sequence, or a trap, with the state that it leaves
pub data Config : Type 0 where
  Running : State → Seq → Config
  Trap : State → TrapCode → Config

-- ---- a fresh instance (4.5.4, Instantiation)

-- A deployed module has no other constant expression than a const.
abbrev pub constant : Instrs → Value
constant (seq (Plain (Const v)) nothing) = v
constant _ = value_of I32 0

abbrev pub size_of : List Limits → ℕ
size_of [] = 0
size_of (l ∷ ls) = l.min

abbrev pub with_elements : List Element → List (Option ℕ) → List (Option ℕ)
with_elements [] table = table
with_elements (e ∷ es) table = with_elements es (written (bits_of (constant e.offset)) (map Some e.funcs) table)

abbrev pub with_datas : List DataSegment → List ℕ → List ℕ
with_datas [] memory = memory
with_datas (s ∷ ss) memory = with_datas ss (written (bits_of (constant s.offset)) s.bytes memory)

abbrev pub fresh : Module → State
fresh m = record {
  globals = map (λ g. constant g.init) m.globals;
  memory = with_datas m.datas (replicate (page_size * size_of m.memories) 0);
  table = with_elements m.elements (replicate (size_of m.tables) None);
  locals = [];
}
