-- Typing of configurations (Core Specification, Appendix, Soundness). A stack is the list of its types, the top first.
use Rattle.std.specs.Prelude.{◌≡◌, ℕ, ℤ, Bool, true, false, List, [], ◌∷◌, ◌++◌, map, reverse, Option, Some, None, slice_get, All, IfSome}
use Rattle.wtypes.specs.declared.ValType.{ValType}
use Rattle.wtypes.specs.declared.ValType.TheVariants.{I64}
use Rattle.wtypes.specs.declared.Value.{Value}
use Rattle.spec_modules.specs.Syntax.{Module}
use Rattle.spec_ledger.specs.declared.Reply.{Reply}
use Rattle.spec_modules.specs.Operators.{type_of}
use Rattle.spec_typing.specs.Typing.{Context, InstrTyped, Typed, of}
use Rattle.spec_typing.specs.Modules.{spaces_of, type_at, globals}
use Rattle.spec_typing.specs.Linking.{IsLinked}
use Rattle.spec_execution.specs.Configuration.{Deployed, Function, function_at, function_type, Seq, End, Val, Code, Free, Label, Frame, Invoke, State, Config, Running, Trap}
use Rattle.spec_execution.specs.Reduction.{Ask, Next, Goes, Traps, Asks, Branches, Returns, Ended, Stuck, arity}
use Rattle.spec_execution.specs.Run.{IsAnswer, next}
use Rattle.spec_execution.specs.Levels.{Level, Levels}

abbrev pub types : List Value → List ValType
types vs = map type_of vs

-- What stands around a sequence: a function or none, the types of its locals, the results of the labels, the innermost first, and the function's result.
pub record Scope : Type 0 where
  pub in_function : Bool
  pub locals : List ValType
  pub labels : List (Option ValType)
  pub result : Option ValType

-- around a whole configuration
abbrev pub outermost : Scope
outermost = record { in_function = false; locals = []; labels = []; result = None }

abbrev pub inside_label : Option ValType → Scope → Scope
inside_label target s = record { in_function = s.in_function; locals = s.locals; labels = target ∷ s.labels; result = s.result }

abbrev pub inside_frame : List ValType → Option ValType → Scope
inside_frame locals result = record { in_function = true; locals = locals; labels = []; result = result }

-- the context of an instruction there
abbrev pub context_in : Module → Scope → Context
context_in m s = let spaces = spaces_of m in record {
  types = spaces.types;
  funcs = map (type_at spaces.types) spaces.funcs;
  has_table = spaces.has_table;
  has_memory = spaces.has_memory;
  globals = spaces.globals;
  locals = s.locals;
  labels = s.labels;
  result = s.result;
}

-- an element of the table is none, or a function
abbrev pub ElementTyped : Deployed → Option ℕ → Type 0
ElementTyped d element = IfSome element (λ f. (g : Function) × (function_at d f ≡ Some g))

-- The globals and the locals have their types, and the table's elements are functions (Appendix, Soundness, Store Validity).
pub record StateTyped (d : Deployed) (locals : List ValType) (state : State) : Type 0 where
  pub locals_are : types state.locals ≡ locals
  pub globals_are : types state.globals ≡ map (λ g. g.type) (globals d.tree)
  pub elements : All (ElementTyped d) state.table

-- In a scope, a sequence takes from off the stack and puts to there (Appendix, Soundness, Administrative Instructions). Code stands in functions alone.
abbrev pub SeqTyped : Deployed → Scope → Seq → List ValType → List ValType → Type 0
SeqTyped d s End from to = from ≡ to
SeqTyped d s (Val v rest) from to = SeqTyped d s rest (type_of v ∷ from) to
SeqTyped d s (Code at i rest) from to =
    (operands results below : List ValType) × (s.in_function ≡ true) × InstrTyped (context_in d.tree s) i operands results × (from ≡ operands ++ below) × SeqTyped d s rest (results ++ below) to
SeqTyped d s (Free i rest) from to =
    (operands results below : List ValType) × (s.in_function ≡ true) × InstrTyped (context_in d.tree s) i operands results × (from ≡ operands ++ below) × SeqTyped d s rest (results ++ below) to
SeqTyped d s (Label n at k inside rest) from to =
    (target result : Option ValType) × (n ≡ arity target) × (s.in_function ≡ true) × Typed (context_in d.tree s) k (of target) (of result) ×
    SeqTyped d (inside_label target s) inside [] (of result) × SeqTyped d s rest (of result ++ from) to
SeqTyped d s (Frame f n locals inside rest) from to =
    (result : Option ValType) × (n ≡ arity result) × SeqTyped d (inside_frame (types locals) result) inside [] (of result) × SeqTyped d s rest (of result ++ from) to
SeqTyped d s (Invoke f rest) from to =
    (g : Function) × (below : List ValType) × (function_at d f ≡ Some g) × (from ≡ reverse (function_type g).params ++ below) × SeqTyped d s rest (reverse (function_type g).results ++ below) to

-- What a typed sequence does next: it goes on typed, also by each answer of the host, traps, ends with values of these types, or leaves a label or function that is there.
abbrev pub NextTyped : Deployed → Scope → List ValType → Next → Type 0
NextTyped d s to (Goes charge state seq) = StateTyped d s.locals state × SeqTyped d s seq [] to
NextTyped d s to (Traps charge code) = Unit {0}
NextTyped d s to (Asks w go) = (r : Reply) → IsAnswer w r → SeqTyped d s (go r) [] to
NextTyped d s to (Branches charge l vs) =
    (target : Option ValType) × (below : List ValType) × (slice_get s.labels l ≡ Some target) × (types vs ≡ of target ++ below)
NextTyped d s to (Returns charge vs) = (below : List ValType) × (s.in_function ≡ true) × (types vs ≡ of s.result ++ below)
NextTyped d s to (Ended vs) = types vs ≡ to
NextTyped d s to Stuck = ⊥

-- ---- levels

-- a configuration of a deployed module that is to leave values of these types, the top first
abbrev pub ConfigTyped : Deployed → List ValType → Config → Type 0
ConfigTyped d to (Running state seq) = StateTyped d [] state × SeqTyped d outermost seq [] to
ConfigTyped d to (Trap state code) = Unit {0}

pub record LevelTyped (l : Level) (to : List ValType) : Type 0 where
  pub linked : IsLinked l.contract.deployed.tree l.contract.deployed.hosts
  pub config : ConfigTyped l.contract.deployed to l.config

-- it stands at an `ask`, and waits for the level that it has asked for
pub record IsWaiting (l : Level) : Type 0 where
  pub state : State
  pub seq : Seq
  pub number : ℕ
  pub export : ℕ
  pub argument : ℤ
  pub go : Reply → Seq
  pub config_is : l.config ≡ Running state seq
  pub asks : next l.contract state seq ≡ Asks (Ask number export argument) go

-- what a level leaves, with these levels around it: what was asked for, or the results of the call
abbrev pub leaves : List Level → List ValType → List ValType
leaves [] results = results
leaves (l ∷ outer) results = I64 ∷ []

abbrev pub AllWait : List Level → List ValType → Type 0
AllWait [] results = Unit {0}
AllWait (l ∷ outer) results = LevelTyped l (leaves outer results) × IsWaiting l × AllWait outer results

-- each level is typed, and all but the innermost one wait
abbrev pub LevelsTyped : List ValType → Levels → Type 0
LevelsTyped results a = LevelTyped a.inner (leaves a.outer results) × AllWait a.outer results
