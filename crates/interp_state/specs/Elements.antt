-- Calls of elements of the table.
use Rattle.std.specs.Prelude.{ℕ, List, Option, Some, None, Result, Ok, Err, slice_get, option_map, option_and_then, if◌then◌else◌}
use Rattle.wtypes.specs.declared.TrapCode.{TrapCode}
use Rattle.wtypes.specs.declared.TrapCode.TheVariants.{ElementOutOfTable, EmptyElement, TypeMismatch}
use Rattle.spec_modules.specs.Syntax.{FuncType}
use Rattle.spec_execution.specs.Configuration.{Deployed, function_at, function_type}
use Rattle.spec_execution.specs.Reduction.{same_function_type}

-- The function that is called, by the type that it must have, or the trap. None where there is no such function.
abbrev pub called : Deployed → FuncType → Option (Option ℕ) → Option (Result ℕ TrapCode)
called d t None = Some (Err ElementOutOfTable)
called d t (Some None) = Some (Err EmptyElement)
called d t (Some (Some f)) = option_map (λ g. if same_function_type t (function_type g) then Ok f else Err TypeMismatch) (function_at d f)

-- the same, by the element's number and the type's
abbrev pub element_called : Deployed → List (Option ℕ) → ℕ → ℕ → Option (Result ℕ TrapCode)
element_called d table element type = option_and_then (λ t. called d t (slice_get table element)) (slice_get d.tree.types type)
