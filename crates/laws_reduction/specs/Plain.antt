-- What an instruction that holds no other one does to the values and the locals.
use Rattle.std.specs.Prelude.{◌≡◌, ℕ, List, [], ◌∷◌, ◌++◌, length, Some, slice_get, slice_set}
use Rattle.wtypes.specs.declared.Value.{Value}
use Rattle.wtypes.specs.declared.TrapCode.{TrapCode}
use Rattle.wtypes.specs.declared.PlainInstr.{PlainInstr}
use Rattle.wtypes.specs.declared.PlainInstr.TheVariants.{Call, LocalTee}
use Rattle.spec_execution.specs.Configuration.{Contract, Seq, State, values}
use Rattle.spec_execution.specs.Reduction.{Goes, Traps, execute_plain}
use Rattle.laws_reduction.specs.Meaning.{at, put}
use Rattle.laws_reduction.specs.Forms.{operands}

-- values in reverse, before others
abbrev pub onto : List Value → List Value → List Value
onto [] acc = acc
onto (v ∷ vs) acc = onto vs (v ∷ acc)

-- it is a call of this function, which is to come
pub record Called (op : PlainInstr) (stack locals : List Value) (f : ℕ) (stack' locals' : List Value) : Type 0 where
  pub call : op ≡ Call f
  pub same : stack' ≡ stack
  pub same_locals : locals' ≡ locals

-- it takes the topmost values and gives others, whatever stands below and behind
pub record Ran (op : PlainInstr) (stack locals stack' locals' : List Value) : Type 0 where
  pub kept : List Value
  pub taken : List Value
  pub given : List Value
  pub before : stack ≡ kept ++ taken
  pub count : length taken ≡ operands op
  pub after : stack' ≡ kept ++ given
  pub step : (c : Contract) (b : State) (vs : List Value) (rest : Seq) → execute_plain c (at b locals) 1 op (onto taken vs) rest ≡ Goes 1 (at b locals') (values vs (put given rest))

-- it writes the topmost value to a local and keeps it; the write is a reduction of its own, which is free
pub record Teed (op : PlainInstr) (stack locals stack' locals' : List Value) : Type 0 where
  pub local : ℕ
  pub kept : List Value
  pub value : Value
  pub old : Value
  pub tees : op ≡ LocalTee local
  pub before : stack ≡ kept ++ value ∷ []
  pub there : slice_get locals local ≡ Some old
  pub same : stack' ≡ stack
  pub set : locals' ≡ slice_set locals local value

-- it did its work
pub data Done (op : PlainInstr) (stack locals stack' locals' : List Value) : Type 0 where
  at_once : Ran op stack locals stack' locals' → Done op stack locals stack' locals'
  by_two : Teed op stack locals stack' locals' → Done op stack locals stack' locals'

-- it traps
pub record Fell (op : PlainInstr) (stack locals : List Value) (t : TrapCode) (locals' : List Value) : Type 0 where
  pub kept : List Value
  pub taken : List Value
  pub before : stack ≡ kept ++ taken
  pub count : length taken ≡ operands op
  pub same : locals' ≡ locals
  pub step : (c : Contract) (b : State) (vs : List Value) (rest : Seq) → execute_plain c (at b locals) 1 op (onto taken vs) rest ≡ Traps 1 t
