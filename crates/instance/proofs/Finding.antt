-- What counts what was passed.
use Rattle.std.proofs.Common.{ℕ, ◌+◌, Option}
use Rattle.std.specs.Prelude.{option_map}

-- an argument that was passed counts
abbrev pub from : ℕ → Option ℕ → Option ℕ
from i wrong = option_map (λ n. n + i) wrong
