-- The names of instructions in the text format (Core Specification, 6.5 Instructions).
use Rattle.std.specs.Prelude.{◌≡◌, ℕ, List, Some}
use Rattle.wtypes.specs.declared.ValType.{ValType}
use Rattle.wtypes.specs.declared.ValType.TheVariants.{I32, I64}
use Rattle.wtypes.specs.declared.Value.{Value}
use Rattle.wtypes.specs.declared.Value.TheVariants as value
use Rattle.wtypes.specs.declared.PlainInstr.{PlainInstr}
use Rattle.wtypes.specs.declared.PlainInstr.TheVariants.{Unreachable, Nop, Br, BrIf, Return, Call, CallIndirect, Drop, Select, LocalGet, LocalSet, LocalTee, GlobalGet, GlobalSet, Load, Store, MemorySize, MemoryGrow, Const, Unary, Binary, Test, Compare, Convert}
use Rattle.spec_modules.specs.Syntax.{Instr, Plain, BrTable, Block, Loop, If}
use Rattle.spec_text.specs.Words.{beside}
use Rattle.spec_text.specs.declared.TheConstants.{KEY_WORDS, OPERATORS}
use Rattle.spec_text.specs.declared.KeyWord.TheVariants as word
use Rattle.spec_text.specs.declared.Operator.{Operator}
use Rattle.spec_text.specs.declared.Operator.TheVariants as o
use Rattle.typing_errors.specs.declared.names.Naming.{Naming}
use Rattle.typing_errors.specs.declared.names.Naming.TheVariants as naming

abbrev pub constant_type : Value → ValType
constant_type (value.I32 n) = I32
constant_type (value.I64 n) = I64

-- an instruction without what follows its name
abbrev pub operator_of : PlainInstr → Operator
operator_of Unreachable = o.Unreachable
operator_of Nop = o.Nop
operator_of (Br label) = o.Br
operator_of (BrIf label) = o.BrIf
operator_of Return = o.Return
operator_of (Call func) = o.Call
operator_of (CallIndirect type) = o.CallIndirect
operator_of Drop = o.Drop
operator_of Select = o.Select
operator_of (LocalGet n) = o.LocalGet
operator_of (LocalSet n) = o.LocalSet
operator_of (LocalTee n) = o.LocalTee
operator_of (GlobalGet n) = o.GlobalGet
operator_of (GlobalSet n) = o.GlobalSet
operator_of (Load op align offset) = o.Load op
operator_of (Store op align offset) = o.Store op
operator_of MemorySize = o.MemorySize
operator_of MemoryGrow = o.MemoryGrow
operator_of (Const v) = o.Const (constant_type v)
operator_of (Unary op) = o.Unary op
operator_of (Binary op) = o.Binary op
operator_of (Test op) = o.Test op
operator_of (Compare op) = o.Compare op
operator_of (Convert op) = o.Convert op

-- what names an instruction
abbrev pub naming_of : Instr → Naming
naming_of (Plain op) = naming.Operator (operator_of op)
naming_of (BrTable labels fallback) = naming.Operator o.BrTable
naming_of (Block result body) = naming.Word word.Block
naming_of (Loop result body) = naming.Word word.Loop
naming_of (If result on_true on_false) = naming.Word word.If

-- read as a word of the text format, this is the operator, or the key word
abbrev pub IsSpelled : List ℕ → Naming → Type 0
IsSpelled name (naming.Operator operator) = beside (λ r. r.now) name OPERATORS ≡ Some operator
IsSpelled name (naming.Word word) = beside (λ r. r.now) name KEY_WORDS ≡ Some word

-- the instruction has this name
abbrev pub IsNameOf : List ℕ → Instr → Type 0
IsNameOf name instr = IsSpelled name (naming_of instr)
