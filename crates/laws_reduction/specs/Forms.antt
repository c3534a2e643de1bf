-- The forms of instructions, by what they take and what they reach.
use Rattle.std.specs.Prelude.{◌≡◌, ℕ, ◌<◌, Bool, true, false, List, [], ◌∷◌, ◌++◌, length}
use Rattle.wtypes.specs.declared.ValType.{ValType}
use Rattle.wtypes.specs.declared.ValType.TheVariants.{I32}
use Rattle.wtypes.specs.declared.Value.{Value}
use Rattle.wtypes.specs.declared.PlainInstr.{PlainInstr}
use Rattle.wtypes.specs.declared.PlainInstr.TheVariants.{Unreachable, Nop, Call, Drop, Select, LocalGet, LocalSet, LocalTee, GlobalGet, GlobalSet, Load, Store, MemorySize, MemoryGrow, Const, Unary, Binary, Test, Compare, Convert}
use Rattle.spec_modules.specs.Operators.{type_of, unary_type, binary_type, test_type, compare_type, convert_from}

-- the next instruction is the one behind it, or it is a call
abbrev pub runs_on : PlainInstr → Bool
runs_on Unreachable = true
runs_on Nop = true
runs_on (Call f) = true
runs_on Drop = true
runs_on Select = true
runs_on (LocalGet x) = true
runs_on (LocalSet x) = true
runs_on (LocalTee x) = true
runs_on (Const v) = true
runs_on (Unary o) = true
runs_on (Binary o) = true
runs_on (Test o) = true
runs_on (Compare o) = true
runs_on (Convert o) = true
runs_on _ = false

-- it reads or writes the instance
abbrev pub runs_on_instance : PlainInstr → Bool
runs_on_instance (GlobalGet x) = true
runs_on_instance (GlobalSet x) = true
runs_on_instance (Load o align offset) = true
runs_on_instance (Store o align offset) = true
runs_on_instance MemorySize = true
runs_on_instance MemoryGrow = true
runs_on_instance _ = false

-- how many values an instruction takes
abbrev pub operands : PlainInstr → ℕ
operands Drop = 1
operands Select = 3
operands (LocalSet x) = 1
operands (LocalTee x) = 1
operands (Unary o) = 1
operands (Binary o) = 2
operands (Test o) = 1
operands (Compare o) = 2
operands (Convert o) = 1
operands _ = 0

-- a value of a type on top, and those below
pub record HasOne (t : ValType) (stack : List Value) : Type 0 where
  pub kept : List Value
  pub a : Value
  pub before : stack ≡ kept ++ a ∷ []
  pub first : type_of a ≡ t

-- two values of a type on top, and those below
pub record HasTwo (t : ValType) (stack : List Value) : Type 0 where
  pub kept : List Value
  pub a : Value
  pub b : Value
  pub before : stack ≡ kept ++ a ∷ b ∷ []
  pub first : type_of a ≡ t
  pub second : type_of b ≡ t

-- two values and a number that chooses one of them on top, and those below
pub record HasChoice (stack : List Value) : Type 0 where
  pub kept : List Value
  pub a : Value
  pub b : Value
  pub k : Value
  pub before : stack ≡ kept ++ a ∷ b ∷ k ∷ []
  pub number : type_of k ≡ I32

-- a value, and the local that it is written to
pub record CanSet (x : ℕ) (stack locals : List Value) : Type 0 where
  pub some : 0 < length stack
  pub there : x < length locals

-- what an instruction takes is there
abbrev pub IsReadyFor : PlainInstr → List Value → List Value → Type 0
IsReadyFor Unreachable stack locals = Unit {0}
IsReadyFor Nop stack locals = Unit {0}
IsReadyFor (Call f) stack locals = Unit {0}
IsReadyFor Drop stack locals = 0 < length stack
IsReadyFor Select stack locals = HasChoice stack
IsReadyFor (LocalGet x) stack locals = x < length locals
IsReadyFor (LocalSet x) stack locals = CanSet x stack locals
IsReadyFor (LocalTee x) stack locals = CanSet x stack locals
IsReadyFor (Const v) stack locals = Unit {0}
IsReadyFor (Unary o) stack locals = HasOne (unary_type o) stack
IsReadyFor (Binary o) stack locals = HasTwo (binary_type o) stack
IsReadyFor (Test o) stack locals = HasOne (test_type o) stack
IsReadyFor (Compare o) stack locals = HasTwo (compare_type o) stack
IsReadyFor (Convert o) stack locals = HasOne (convert_from o) stack
IsReadyFor _ stack locals = ⊥
