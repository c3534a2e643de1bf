-- A book in shards, as contracts see it.
use Rattle.std.specs.Prelude.{refl, ℕ}
use Rattle.std.specs.Coded.{Coded, code_by, coded×, coded_ℕ}
use Rattle.spec_ledger.specs.Cells.{Cells}
use Rattle.spec_ledger.specs.Codes.{coded_cells}

-- the cells that it was opened with, and how many shards it has
pub record Sharded : Type 0 where
  pub opening : Cells
  pub shards : ℕ

abbrev pub sharded_code : Coded Sharded
sharded_code = code_by (Cells × ℕ) (coded× coded_cells coded_ℕ) (λ s. (s.opening, s.shards)) (λ p. record { opening = p.0; shards = p.1 }) (λ _. refl)
