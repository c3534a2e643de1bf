-- Which instruction of the code a sequence reduces by, and its place.
use Rattle.std.specs.Prelude.{◌≡◌, ℕ, List, [], ◌∷◌, Option, Some, None}
use Rattle.wtypes.specs.declared.Value.{Value}
use Rattle.spec_modules.specs.Syntax.{Instr, Instrs}
use Rattle.spec_modules.specs.Shape.{instr_at}
use Rattle.spec_ledger.specs.declared.TraceStep.{TraceStep}
use Rattle.spec_execution.specs.Configuration.{Setting, Contract, Seq, Val, Code, Label, Frame, State, Running}
use Rattle.spec_execution.specs.Reduction.{Next, execute, in_label, in_frame}
use Rattle.spec_execution.specs.Run.{next, IsCharged}
use Rattle.spec_execution.specs.Levels.{Levels, first_level, Reached}
use Rattle.spec_execution.specs.Places.{body_of}
use Rattle.spec_execution.specs.Turns.{place_of}

-- What comes next is that this instruction is executed, as the one of this ordinal of this function, behind the values and inside the labels and the frames around it.
pub data ReducesBy (c : Contract) : Option ℕ → State → List Value → Seq → (func ordinal : ℕ) → Instr → Next → Type 0 where
  here : (f n : ℕ) (i : Instr) (s : State) (vs : List Value) (rest : Seq) → ReducesBy c (Some f) s vs (Code n i rest) f n i (execute c s 1 n i vs rest)
  behind_value : (around : Option ℕ) (f n : ℕ) (i : Instr) (x : Next) (s : State) (v : Value) (vs : List Value) (rest : Seq) →
      ReducesBy c around s (v ∷ vs) rest f n i x → ReducesBy c around s vs (Val v rest) f n i x
  inside_label : (around : Option ℕ) (f n : ℕ) (i : Instr) (x : Next) (s : State) (vs : List Value) (arity at : ℕ) (k : Instrs) (inside rest : Seq) →
      ReducesBy c around s [] inside f n i x → ReducesBy c around s vs (Label arity at k inside rest) f n i (in_label s arity at k vs rest x)
  inside_frame : (around : Option ℕ) (f n : ℕ) (i : Instr) (x : Next) (s : State) (vs : List Value) (g arity : ℕ) (locals : List Value) (inside rest : Seq) →
      ReducesBy c (Some g) (record s { locals = locals }) [] inside f n i x → ReducesBy c around s vs (Frame g arity locals inside rest) f n i (in_frame s g arity locals vs rest x)

-- the place that is read off a configuration is that of the instruction by which it reduces, which stands there in the body of the function
pub record PlaceIsRight (c : Contract) (s : State) (seq : Seq) : Type 0 where
  pub func : ℕ
  pub ordinal : ℕ
  pub instr : Instr
  pub place : place_of (Running s seq) ≡ Some (func, ordinal)
  pub stands : instr_at (body_of c func) ordinal ≡ Some instr
  pub reduces : ReducesBy c None s [] seq func ordinal instr (next c s seq)

-- In each configuration that a call reaches and in which an instruction is to come at the innermost level, its place is right.
abbrev pub PlacesAreOfWhatComes : Type 0
PlacesAreOfWhatComes = (setting : Setting) (c : Contract) (func : ℕ) (args : List Value) (limit : ℕ) (trace : List TraceStep) (used : ℕ) (a : Levels) (s : State) (seq : Seq) →
    Reached setting (first_level c func args) limit trace used a → a.inner.config ≡ Running s seq → IsCharged (next a.inner.contract s seq) → PlaceIsRight a.inner.contract s seq
