-- The entry of a call, while it waits for the start function to end.
use Rattle.std.specs.Prelude.{◌≡◌, ℕ, ◌<◌, List, [], ◌∷◌, ◌++◌, length, Option, Some, None, vec_capacity}
use Rattle.wtypes.specs.declared.Value.{Value}
use Rattle.spec_modules.specs.Syntax.{FuncType, Func}
use Rattle.spec_execution.specs.Configuration.{Contract, Defined, function_at, Seq, End, Invoke, arguments, State}
use Rattle.spec_execution.specs.Run.{Reduces}
use Rattle.spec_execution.specs.Turns.{Frees}
use Rattle.interp_state.specs.declared.parts.Parts.{Parts}
use Rattle.interp_state.specs.declared.waiting.Waiting.{Waiting}
use Rattle.laws_reduction.specs.Meaning.{Open, Frame, View, IsOrdered, config, calling}
use Rattle.interp_state.specs.Steps.{AreNumbered}
use Rattle.laws_reduction.specs.Tails.{with_tail}
use Rattle.interp_state.specs.Views.{view, items_of}

-- a function of the module that takes these arguments
pub record IsEntry (c : Contract) (f : ℕ) (args : List Value) : Type 0 where
  pub type : FuncType
  pub function : Func
  pub found : function_at c.deployed f ≡ Some (Defined type function)
  pub fit : length args ≡ length type.params

-- what waits: nothing, or the arguments and the call of the entry
abbrev pub tail_of : {A : Type 0} → List Value → Option (Waiting A) → Seq
tail_of args None = End
tail_of args (Some w) = arguments args (Invoke w.func End)

-- these values, with no label and no frame
abbrev pub alone : State → List Value → List Value → View
alone b stack locals = record { base = b; entries = []; stack = stack; locals = locals; code = [] }

-- the entry's frame above these values
abbrev pub frame_of : {A : Type 0} → Waiting A → List Value → List Value → Open
frame_of w stack locals = record { scope = Frame w.func locals; ordinal = 0; arity = w.arity; height = length stack; from = [] }

abbrev pub entered : {A : Type 0} → State → Waiting A → List Value → List Value → View
entered b w stack locals = record { base = b; entries = frame_of w stack locals ∷ []; stack = stack; locals = w.locals.items; code = items_of w.body.now }

-- what is kept of it is the entry that these arguments are passed to
pub record IsPrepared {A : Type 0} (c : Contract) (args : List Value) (w : Waiting A) : Type 0 where
  pub reduces : (b : State) (stack locals : List Value) → Reduces c (calling (alone b (stack ++ args) locals) w.func) 0 (config (entered b w stack locals))

abbrev pub Waits : {A : Type 0} → Contract → List Value → Option (Waiting A) → Type 0
Waits c args None = Unit {0}
Waits c args (Some w) = IsPrepared c args w

-- there is room for its frame
pub record HasPlace {A : Type 0} (w : Waiting A) : Type 0 where
  pub none_open : w.entries.items ≡ []
  pub room : 0 < vec_capacity w.entries
  pub numbered : AreNumbered w.body.now

abbrev pub HasEach : {A : Type 0} → Option (Waiting A) → Type 0
HasEach None = Unit {0}
HasEach (Some w) = HasPlace w

-- it is entered above these values
abbrev pub HasBeenEntered : {A : Type 0} → Parts A → Waiting A → Parts A → Type 0
HasBeenEntered p w q = (b : State) → view b q ≡ entered (view b p).base w p.stack.items p.locals.items

-- free reductions
pub record Comes {A : Type 0} (c : Contract) (args : List Value) (b : State) (p : Parts A) (w : Option (Waiting A)) (q : Parts A) (x : Option (Waiting A)) : Type 0 where
  pub frees : Frees c (with_tail (tail_of args w) (config (view b p))) (with_tail (tail_of args x) (config (view b q)))
  pub ordered : IsOrdered (view b q)
  pub waits : Waits c args x

-- the same for each contract and all arguments for which the entry is prepared
abbrev pub AllCome : {A : Type 0} → Parts A → Option (Waiting A) → Parts A → Option (Waiting A) → Type 0
AllCome p w q x = (c : Contract) (args : List Value) (b : State) → Waits c args w → Comes c args b p w q x
