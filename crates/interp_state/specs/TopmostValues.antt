-- What instructions make of the topmost values, whatever stands below them.
use Rattle.std.specs.Prelude.{◌≡◌, ℕ, ◌<◌, Bool, true, false, List, [], ◌∷◌, ◌++◌, length, IsErr}
use Rattle.wtypes.specs.declared.Value.{Value}
use Rattle.wtypes.specs.declared.PlainInstr.{PlainInstr}
use Rattle.wtypes.specs.declared.PlainInstr.TheVariants.{Const, LocalGet, LocalSet, LocalTee, Unary, Binary, Test, Compare, Convert}
use Rattle.spec_modules.specs.Operators.{type_of, unary_type, binary_type, test_type, compare_type, convert_from, binary_of}
use Rattle.laws_reduction.specs.Forms.{runs_on, operands}
use Rattle.laws_reduction.specs.Plain.{Done}

-- it pushes this value
pub record Pushes (op : PlainInstr) (locals : List Value) (v : Value) : Type 0 where
  pub runs : runs_on op ≡ true
  pub does : (stack : List Value) → Done op stack locals (stack ++ v ∷ []) locals

-- it puts this value in the place of two
pub record Joins (op : PlainInstr) (a b v : Value) : Type 0 where
  pub runs : runs_on op ≡ true
  pub does : (stack locals : List Value) → Done op (stack ++ a ∷ b ∷ []) locals (stack ++ v ∷ []) locals

-- it puts this value in the place of one
pub record Changes (op : PlainInstr) (a v : Value) : Type 0 where
  pub runs : runs_on op ≡ true
  pub does : (stack locals : List Value) → Done op (stack ++ a ∷ []) locals (stack ++ v ∷ []) locals

-- the local is written, by an instruction that takes the value and by one that leaves it
pub record Writes (x : ℕ) (v : Value) (locals locals' : List Value) : Type 0 where
  pub set : (stack : List Value) → Done (LocalSet x) (stack ++ v ∷ []) locals stack locals'
  pub tee : (stack : List Value) → Done (LocalTee x) (stack ++ v ∷ []) locals (stack ++ v ∷ []) locals'

-- the local is there that it reads
abbrev pub IsReadyToPush : PlainInstr → List Value → Type 0
IsReadyToPush (LocalGet x) locals = x < length locals
IsReadyToPush _ locals = Unit {0}

-- an operator of two has operands of its type
abbrev pub IsReadyToJoin : PlainInstr → Value → Value → Type 0
IsReadyToJoin (Binary o) a b = (type_of a ≡ binary_type o) × (type_of b ≡ binary_type o)
IsReadyToJoin (Compare o) a b = (type_of a ≡ compare_type o) × (type_of b ≡ compare_type o)
IsReadyToJoin _ a b = Unit {0}

-- an operator of one has an operand of its type
abbrev pub IsReadyToChange : PlainInstr → Value → Type 0
IsReadyToChange (Unary o) a = type_of a ≡ unary_type o
IsReadyToChange (Test o) a = type_of a ≡ test_type o
IsReadyToChange (Convert o) a = type_of a ≡ convert_from o
IsReadyToChange _ a = Unit {0}

-- it takes two values and runs on
pub record TakesTwo (op : PlainInstr) : Type 0 where
  pub runs : runs_on op ≡ true
  pub count : operands op ≡ 2

-- whether it is a constant or reads a local
abbrev pub pushes : PlainInstr → Bool
pushes (Const v) = true
pushes (LocalGet x) = true
pushes _ = false

-- whether it is an operator of two
abbrev pub joins : PlainInstr → Bool
joins (Binary o) = true
joins (Compare o) = true
joins _ = false

-- whether it is an operator of one
abbrev pub changes : PlainInstr → Bool
changes (Unary o) = true
changes (Test o) = true
changes (Convert o) = true
changes _ = false

-- it is no operator of two, or it traps on these
abbrev pub JoinsNone : PlainInstr → Value → Value → Type 0
JoinsNone (Binary o) a b = IsErr (binary_of o a b)
JoinsNone (Compare o) a b = ⊥
JoinsNone _ a b = Unit {0}
