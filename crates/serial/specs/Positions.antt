-- What an order came to, position by position.
use Rattle.std.specs.Prelude.{List, [], ◌∷◌}
use Rattle.spec_ledger.specs.declared.Receipt.{Receipt}
use Rattle.spec_ledger.specs.Modes.{Modes}
use Rattle.spec_execution.specs.Serial.{CallResult}

-- the receipt and the locks of each position
abbrev pub results_of : List Receipt → List Modes → List CallResult
results_of [] ms = []
results_of (r ∷ rs) [] = []
results_of (r ∷ rs) (m ∷ ms) = record { receipt = r; touched = m } ∷ results_of rs ms
