-- Abstract locks: the modes that each call holds.
use Rattle.std.specs.Prelude.{◌≡◌, ℕ, ◌+◌, true, Some, List, ◌++◌, take, drop, slice_index_or}
use Rattle.std.specs.List.{AllByRecursion}
use Rattle.std.specs.FinMap.{get, insert, empty}
use Rattle.spec_ledger.specs.declared.Lock.{Lock}
use Rattle.spec_ledger.specs.declared.Mode.{Mode}
use Rattle.spec_ledger.specs.Modes.{Modes, join_held, may_share}

-- a holder's modes after it has asked for a lock
abbrev pub asked : Modes → Lock → Mode → Modes
asked held lock mode = insert held lock (join_held mode (get held lock))

-- the asked mode, joined to the one held, goes with what each of these holds
abbrev pub AllShare : Modes → Lock → Mode → List Modes → Type 0
AllShare held lock mode others = AllByRecursion (λ m. may_share (Some (join_held mode (get held lock))) (get m lock) ≡ true) others

abbrev pub others : List Modes → ℕ → List Modes
others table call = take call table ++ drop (call + 1) table

-- what a call holds
abbrev pub row_at : List Modes → ℕ → Modes
row_at table call = slice_index_or table call empty
