-- What the contracts of the intake's calls say of seats.
use Rattle.std.specs.Prelude.{◌≡◌, ℕ, ◌≤◌, Bool, true, List}
use Rattle.std.specs.List.{flat_map, list_any}
use Rattle.atomic_table.specs.Seated.{TableId}
use Rattle.book_workers.specs.declared.account.Account.{Account}
use Rattle.book_workers.specs.declared.account.Limits.{Limits}
use Rattle.book_workers.specs.declared.seat.Seat.{Seat}
use Rattle.book_workers.specs.Accounts.{newcomer, IsEachBelow}

abbrev pub account : Seat → Account
account s = s.token.me.0

-- a seat of this table, with these limits
abbrev pub IsSeatAt : TableId → Limits → Seat → Type 0
IsSeatAt table k s = (s.token.table_id ≡ table) × ((account s).limits ≡ k)

-- one that open gave, and that has made no call
abbrev pub IsNewSeatAt : TableId → Limits → Seat → Type 0
IsNewSeatAt table k s = (s.token.table_id ≡ table) × (account s ≡ newcomer k 1)

abbrev pub drawn_by : List Seat → List ℕ
drawn_by seats = flat_map (λ s. (account s).drawn) seats

abbrev pub granted_to : List Seat → List ℕ
granted_to seats = flat_map (λ s. (account s).granted) seats

abbrev pub refused_to : List Seat → List ℕ
refused_to seats = flat_map (λ s. (account s).refused) seats

abbrev pub is_any_done : List Seat → Bool
is_any_done seats = list_any (λ s. (account s).is_done) seats

-- each number from 0 on was drawn once, up to some number of calls, and up to the last where some seat was told that all are drawn
abbrev pub IsEachOnce : Limits → List Seat → Type 0
IsEachOnce k seats = (m : ℕ) × (m ≤ k.calls) × IsEachBelow m (drawn_by seats) × (is_any_done seats ≡ true → m ≡ k.calls)
