-- The functions that an `ask` runs.
use Rattle.std.specs.Prelude.{ℕ, Bool, false, if◌then◌else◌, Option, Some, None, option_map, slice_get}
use Rattle.spec_modules.specs.Syntax.{ExportDesc, ExportFunc}
use Rattle.spec_execution.specs.Configuration.{Deployed, Function, Defined, function_at}
use Rattle.spec_execution.specs.Reduction.{same_function_type}
use Rattle.spec_execution.specs.Levels.{ask_type}

-- a function of the module that may be asked for
abbrev pub is_asked : Option Function → Bool
is_asked (Some (Defined t f)) = same_function_type t ask_type
is_asked _ = false

-- what stands at an export's place
abbrev pub export_at : Deployed → ℕ → Option ExportDesc
export_at d export = option_map (λ x. x.desc) (slice_get d.tree.exports export)

-- the number of the function that an export is, where it may be asked for
abbrev pub asked_function : Deployed → Option ExportDesc → Option ℕ
asked_function d (Some (ExportFunc func)) = if is_asked (function_at d func) then Some func else None
asked_function d _ = None
