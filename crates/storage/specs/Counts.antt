-- How many changes of each lock are unsettled: done, and neither taken back nor settled.
use Rattle.std.specs.Prelude.{◌≡◌, refl, ℕ, ◌+◌, ◌-◌, ◌<◌, List, [], ◌∷◌}
use Rattle.std.specs.Coded.{Coded, code_by, coded×}
use Rattle.spec_ledger.specs.Codes.{coded_cells}
use Rattle.std.specs.FinMap.{FinMap, get}
use Rattle.spec_ledger.specs.declared.Lock.{Lock}
use Rattle.spec_ledger.specs.declared.Inverse.{Inverse}
use Rattle.spec_ledger.specs.declared.Inverse.TheVariants.{Keep, Subtract, Restore}
use Rattle.spec_ledger.specs.Cells.{Cells, lock_cmp, counter, number, map_at, counter_at, update}

-- a finite map from locks to numbers above 0
abbrev pub Counts : Type 0
Counts = FinMap lock_cmp ℕ

-- how many unsettled changes a lock has
abbrev pub count_at : Counts → Lock → ℕ
count_at counts lock = number (get counts lock)

-- the change of an operation that does more than read
abbrev pub opened : Inverse → Counts → Counts
opened Keep counts = counts
opened (Subtract p v) counts = update counts (counter_at p) (λ n. counter (number n + 1))
opened (Restore p c) counts = update counts (map_at p) (λ n. counter (number n + 1))

-- one change less
abbrev pub closed : Inverse → Counts → Counts
closed Keep counts = counts
closed (Subtract p v) counts = update counts (counter_at p) (λ n. counter (number n - 1))
closed (Restore p c) counts = update counts (map_at p) (λ n. counter (number n - 1))

-- the inverse's lock has an unsettled change, or its operation only reads
abbrev pub IsUnsettled : Inverse → Counts → Type 0
IsUnsettled Keep counts = Unit {0}
IsUnsettled (Subtract p v) counts = 0 < count_at counts (counter_at p)
IsUnsettled (Restore p c) counts = 0 < count_at counts (map_at p)

-- the counts after the changes of these inverses
abbrev pub opened_all : List Inverse → Counts → Counts
opened_all [] counts = counts
opened_all (i ∷ is) counts = opened_all is (opened i counts)

-- the counts when these are closed, last first
abbrev pub closed_all : List Inverse → Counts → Counts
closed_all [] counts = counts
closed_all (i ∷ is) counts = closed i (closed_all is counts)

-- these may be closed, last first
abbrev pub AreUnsettled : List Inverse → Counts → Type 0
AreUnsettled [] counts = Unit {0}
AreUnsettled (i ∷ is) counts = AreUnsettled is counts × IsUnsettled i (closed_all is counts)

-- a count is never there with 0
pub record AreCounts (m : Counts) : Type 0 where
  pub each : (l : Lock) → counter (number (get m l)) ≡ get m l

-- what contracts see of a store: the cells, and how many changes of each lock are unsettled
pub record Store : Type 0 where
  pub cells : Cells
  pub unsettled : Counts

abbrev pub store_code : Coded Store
store_code = code_by (Cells × Counts) (coded× coded_cells coded_cells) (λ s. (s.cells, s.unsettled)) (λ p. record { cells = p.0; unsettled = p.1 }) (λ _. refl)
