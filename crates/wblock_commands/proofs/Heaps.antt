-- Options that ask for no heap of a number and are there ask for none.
use Rattle.std.proofs.Common.{◌≢◌, ℕ, List, [], Option, Some, None}
use Rattle.wblock_commands.specs.Options.{IsHeap, IsNumber}

pub no_heap : (values : List (List ℕ)) → values ≢ [] → ((n : ℕ) → ¬ IsNumber values 1024 16777216 n) → (heap : Option ℕ) → ¬ IsHeap values heap
no_heap values some none None is = some is
no_heap values some none (Some n) is = none n is
