-- What a seat keeps for contracts, and how a call changes it.
use Rattle.std.specs.Prelude.{◌≡◌, ℕ, ◌+◌, ◌-◌, ◌==◌, ◌<◌, ◌≤◌, true, false, ◌||◌, List, [], ◌∷◌, ◌++◌}
use Rattle.std.specs.List.{count_by}
use Rattle.book_workers.specs.declared.account.Account.{Account}
use Rattle.book_workers.specs.declared.account.Limits.{Limits}

abbrev pub limits : ℕ → ℕ → ℕ → Limits
limits calls block_fuel seats = record { calls = calls; block_fuel = block_fuel; seats = seats }

-- a seat that has drawn, asked and seen nothing; the first one stands for each seat that is not cut off yet
abbrev pub newcomer : Limits → ℕ → Account
newcomer k parts = record { limits = k; parts = parts; drawn = []; is_done = false; granted = []; refused = []; seen = k.block_fuel }

-- the seat drew the number n
abbrev pub drew : Account → ℕ → Account
drew v n = record v { drawn = v.drawn ++ n ∷ [] }

-- the seat was told that all numbers are drawn
abbrev pub told_done : Account → Account
told_done v = record v { is_done = true }

-- the seat saw the fuel n
abbrev pub saw : Account → ℕ → Account
saw v n = record v { seen = n }

-- the seat was granted this fuel, and it left n
abbrev pub grant : Account → ℕ → ℕ → Account
grant v fuel n = record v { granted = v.granted ++ fuel ∷ []; seen = n }

-- the seat was refused this fuel, and it saw n
abbrev pub refuse : Account → ℕ → ℕ → Account
refuse v fuel n = record v { refused = v.refused ++ fuel ∷ []; seen = n }

-- a seat that was cut off the first one, and what is left of the first
abbrev pub cut_off : Account → Account
cut_off v = newcomer v.limits 1

abbrev pub cut_down : Account → Account
cut_down v = newcomer v.limits (v.parts - 1)

-- two seats as one, the second's calls first
abbrev pub merged : Account → Account → Account
merged v w = record { limits = v.limits; parts = v.parts + w.parts; drawn = w.drawn ++ v.drawn; is_done = w.is_done || v.is_done; granted = w.granted ++ v.granted; refused = w.refused ++ v.refused; seen = v.seen }

-- what is left of a seat that another took in
abbrev pub gone : Account
gone = newcomer (limits 0 0 0) 0

-- how often n stands in the list
abbrev pub times : ℕ → List ℕ → ℕ
times n ns = count_by (λ m. m == n) ns

-- the numbers below m stand in the list once each, and no others
abbrev pub IsEachBelow : ℕ → List ℕ → Type 0
IsEachBelow m ns = (n : ℕ) → (n < m → times n ns ≡ 1) × (m ≤ n → times n ns ≡ 0)
