-- The modes of all calls, by the entries of those calls that hold something.
use Rattle.std.specs.Prelude.{◌≡◌, ℕ, Some, List, map}
use Rattle.std.specs.Ordering.{nat_cmp}
use Rattle.std.specs.Option.{unwrap_or}
use Rattle.std.specs.List.{range_with_len}
use Rattle.std.specs.FinMap.{empty}
use Rattle.std.specs.BTreeMap.{BTreeMap, get}
use Rattle.spec_ledger.specs.Modes.{Modes}

-- what a call holds: nothing where it has no entry
abbrev pub row_of : BTreeMap ℕ Modes → ℕ → Modes
row_of held call = unwrap_or (get nat_cmp held call) empty

-- what each of so many calls holds
abbrev pub rows_of : BTreeMap ℕ Modes → ℕ → List Modes
rows_of held calls = map (row_of held) (range_with_len 0 calls)

-- each entry is of a call that holds something
abbrev pub EachHolds : BTreeMap ℕ Modes → Type 0
EachHolds held = (call : ℕ) → ¬ (get nat_cmp held call ≡ Some empty)
