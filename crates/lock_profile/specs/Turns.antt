-- Profiles: each lock of a call with its mode and its turn (Dickerson, Gazzillo, Herlihy, Koskinen, "Adding Concurrency to Smart Contracts", PODC 2017, section 4).
use Rattle.std.specs.Prelude.{◌≡◌, ℕ, ◌<◌, List, [], map, length, slice_index_or, T}
use Rattle.std.specs.FinMap.{empty, entries, is_sorted}
use Rattle.spec_ledger.specs.declared.Lock.{Lock}
use Rattle.spec_ledger.specs.declared.Mode.{Mode}
use Rattle.spec_ledger.specs.declared.Entry.{Entry}
use Rattle.spec_ledger.specs.Cells.{lock_cmp}
use Rattle.spec_ledger.specs.Modes.{Modes}
use Rattle.spec_ledger.specs.Order.{turn_at}

-- what the position at this place of the order touched
abbrev pub touched_at : List Modes → ℕ → Modes
touched_at touched position = slice_index_or touched position empty

-- each lock of a position in lock order, with its mode and its turn
abbrev pub profile_at : List Modes → ℕ → List Entry
profile_at touched position =
    map (λ (held : Lock × Mode). record { lock = held.0; mode = held.1; turn = turn_at touched position held.0 }) (entries (touched_at touched position))

-- a profile for each position of the order
abbrev pub AreTurns : List Modes → List (List Entry) → Type 0
AreTurns touched profiles =
    (length profiles ≡ length touched) × ((position : ℕ) → position < length touched → slice_index_or profiles position [] ≡ profile_at touched position)

-- locks strictly rise
abbrev pub IsProfile : List Entry → Type 0
IsProfile es = T (is_sorted lock_cmp (map (λ e. (e.lock, e)) es))
