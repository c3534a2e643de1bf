-- What is read off a module.
use Rattle.std.specs.Prelude.{ℕ, ◌+◌, ◌-◌, max, List, [], ◌∷◌, nat_lt, if◌then◌else◌, Option, Some, None, slice_get}
use Rattle.wtypes.specs.declared.PlainInstr.{PlainInstr}
use Rattle.spec_modules.specs.Syntax.{Instrs, Plain, nothing, seq, ImportDesc, ImportFunc, ImportTable, ImportMemory, ImportGlobal, Import, Func, Module}
use Rattle.spec_modules.specs.Shape.{instrs_depth}

-- the deepest level in a body, 0 without one
abbrev pub deepest : List Func → ℕ
deepest [] = 0
deepest (f ∷ fs) = max (instrs_depth f.body) (deepest fs)

-- 1 for a function, 0 for anything else
abbrev pub func_count : ImportDesc → ℕ
func_count (ImportFunc t) = 1
func_count (ImportTable l) = 0
func_count (ImportMemory l) = 0
func_count (ImportGlobal g) = 0

abbrev pub imported_funcs : List Import → ℕ
imported_funcs [] = 0
imported_funcs (i ∷ is) = func_count i.desc + imported_funcs is

-- the defined function of this number; imported functions count first (Core Specification, 2.5.1 Indices)
abbrev pub defined_func : Module → ℕ → Option Func
defined_func m n = if nat_lt n (imported_funcs m.imports) then None else slice_get m.funcs (n - imported_funcs m.imports)

-- the instruction that an expression is, where it is one alone, and one that holds no other
abbrev pub lone_plain : Instrs → Option PlainInstr
lone_plain (seq (Plain op) nothing) = Some op
lone_plain _ = None
