-- The bytes that a memory begins with.
use Rattle.std.specs.Prelude.{ℕ, List, map, Option, Some, None}
use Rattle.std.specs.List.{range_with_len}
use Rattle.memory.specs.declared.start.Start.{Start}
use Rattle.memory.specs.Runs.{standing, begun}

-- the byte that stands at an address before the first store; None where the memory begins with a zero
abbrev pub stands : {A : Type 0} → Start A → ℕ → Option ℕ
stands start at = standing start.runs.items start.bytes.items at

-- the byte at an address of a memory that begins so
abbrev pub begins : {A : Type 0} → Option (Start A) → ℕ → ℕ
begins None at = 0
begins (Some start) at = begun (stands start) at

-- the first bytes of a memory that begins so
abbrev pub first_bytes : {A : Type 0} → Start A → ℕ → List ℕ
first_bytes start count = map (begun (stands start)) (range_with_len 0 count)
