-- When positions may run: where modes do not go together, the later position waits for the earlier one.
use Rattle.std.specs.Prelude.{ℕ, ◌+◌, ◌<◌, ◌≤◌, List, [], ◌∷◌, length, slice_index}
use Rattle.spec_ledger.specs.declared.Kind.TheVariants.{Counter}
use Rattle.spec_ledger.specs.declared.Mode.{Mode}
use Rattle.spec_ledger.specs.declared.Mode.TheVariants.{Read, Add as Adding}
use Rattle.spec_ledger.specs.declared.Entry.{Entry}
use Rattle.spec_block.specs.Schedule.{AreApart}

-- positions start at these times, a unit of fuel takes a unit of time, and all have ended at this time
pub record IsTimetable (profiles : List (List Entry)) (fuels : List ℕ) (starts : ℕ → ℕ) (ended : ℕ) : Type 0 where
  pub waits : (i j : ℕ) → i < j → AreApart profiles i j → starts i + slice_index fuels i ≤ starts j
  pub done : (i : ℕ) → i < length profiles → starts i + slice_index fuels i ≤ ended

-- some timetable has ended at this time
abbrev pub CanEnd : List (List Entry) → List ℕ → (ended : ℕ) → Type 0
CanEnd profiles fuels ended = (starts : ℕ → ℕ) × IsTimetable profiles fuels starts ended

-- a position that holds a counter alone
abbrev pub at_counter : Mode → (turn : ℕ) → List Entry
at_counter mode turn = record { lock = record { contract = 0; kind = Counter; key = 7 }; mode = mode; turn = turn } ∷ []

-- the second reads the counter to which the first adds
abbrev pub adds_then_reads : List (List Entry)
adds_then_reads = at_counter Adding 0 ∷ at_counter Read 1 ∷ []

-- the first starts at 0, the second at 3
abbrev pub one_by_one : ℕ → ℕ
one_by_one position = slice_index (0 ∷ 3 ∷ []) position

-- all start at once
abbrev pub at_once : ℕ → ℕ
at_once position = 0
