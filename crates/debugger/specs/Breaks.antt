-- Breaks at places of instructions.
use Rattle.std.specs.Prelude.{ℕ, ◌==◌, ◌&&◌, ◌||◌, Bool, false, not, List, [], ◌∷◌, ◌++◌, Option, Some, None, option_and_then, option_map, if◌then◌else◌, slice_get}
use Rattle.std.specs.List.{filter}
use Rattle.spec_modules.specs.Syntax.{Name, Instr, Module, ExportDesc, ExportFunc, ExportTable, ExportMemory, ExportGlobal}
use Rattle.spec_modules.specs.Shape.{instr_at}
use Rattle.spec_execution.specs.Configuration.{Deployed}
use Rattle.spec_execution.specs.Run.{exported}
use Rattle.module_tree.specs.Readers.{defined_func}
use Rattle.debugger.specs.declared.place.Place.{Place}

abbrev pub is_same : Place → Place → Bool
is_same p q = ((p.contract == q.contract) && (p.func == q.func)) && (p.ordinal == q.ordinal)

-- whether there is a break at the place
abbrev pub is_set : List Place → Place → Bool
is_set [] p = false
is_set (b ∷ bs) p = is_same b p || is_set bs p

abbrev pub is_set_at : List Place → Option Place → Bool
is_set_at bs None = false
is_set_at bs (Some p) = is_set bs p

-- one break more, unless it is there
abbrev pub with_break : List Place → Place → List Place
with_break bs p = if is_set bs p then bs else bs ++ p ∷ []

-- without the break at the place
abbrev pub without_break : List Place → Place → List Place
without_break bs p = filter (λ b. not (is_same b p)) bs

abbrev pub as_place : (contract func ordinal : ℕ) → Place
as_place contract func ordinal = record { contract = contract; func = func; ordinal = ordinal }

-- a function and an ordinal, as a place of the contract of this number
abbrev pub placed : ℕ → Option (ℕ × ℕ) → Option Place
placed contract place = option_map (λ x. as_place contract x.0 x.1) place

-- the instruction of this ordinal in the body of a function of the module's own
abbrev pub instr_of : Module → (func ordinal : ℕ) → Option Instr
instr_of m func ordinal = option_and_then (λ f. instr_at f.body ordinal) (defined_func m func)

-- the instruction at a place
abbrev pub instr_there : List Deployed → Place → Option Instr
instr_there contracts p = option_and_then (λ d. instr_of d.tree p.func p.ordinal) (slice_get contracts p.contract)

abbrev pub function_of : Option ExportDesc → Option ℕ
function_of None = None
function_of (Some (ExportFunc f)) = Some f
function_of (Some (ExportTable x)) = None
function_of (Some (ExportMemory x)) = None
function_of (Some (ExportGlobal x)) = None

-- the function that is exported under a name
abbrev pub exported_function : Module → Name → Option ℕ
exported_function m name = function_of (exported name m.exports)
