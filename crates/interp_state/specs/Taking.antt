-- Which instructions may take memory: those that put a value on top of all others, store, grow memory, open a block or a loop, or call.
use Rattle.std.specs.Prelude.{Bool, true, false}
use Rattle.wtypes.specs.declared.PlainInstr.{PlainInstr}
use Rattle.wtypes.specs.declared.PlainInstr.TheVariants as op
use Rattle.spec_modules.specs.Syntax.{Instr, Plain, BrTable, Block, Loop, If}

abbrev pub plain_takes_memory : PlainInstr → Bool
plain_takes_memory (op.Const v) = true
plain_takes_memory (op.LocalGet x) = true
plain_takes_memory (op.GlobalGet x) = true
plain_takes_memory op.MemorySize = true
plain_takes_memory op.MemoryGrow = true
plain_takes_memory (op.Store operator align offset) = true
plain_takes_memory (op.Call f) = true
plain_takes_memory (op.CallIndirect type) = true
plain_takes_memory _ = false

abbrev pub takes_memory : Instr → Bool
takes_memory (Plain i) = plain_takes_memory i
takes_memory (BrTable labels fallback) = false
takes_memory (Block result body) = true
takes_memory (Loop result body) = true
takes_memory (If result a b) = true
