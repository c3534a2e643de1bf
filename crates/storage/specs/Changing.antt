-- Cells that several positions change at once.
use Rattle.std.specs.Prelude.{refl, ℕ, Bool, List, [], ◌∷◌, ◌++◌, if◌then◌else◌, take, drop, slice_index_or, slice_set}
use Rattle.std.specs.Coded.{Coded, code_by, coded×, coded_list}
use Rattle.spec_ledger.specs.contracts.Inverse as inverse
use Rattle.spec_ledger.specs.declared.Inverse.{Inverse}
use Rattle.spec_ledger.specs.declared.Op.{Op}
use Rattle.spec_ledger.specs.Cells.{Cells, cells_after, inverse_to}
use Rattle.spec_ledger.specs.Codes.{coded_cells}
use Rattle.spec_ledger.specs.Book.{back_all}
use Rattle.storage.specs.Counts.{Counts, opened_all}

-- the cells, and by position the inverses of what it did and has not ended, first to last
pub record Changing : Type 0 where
  pub cells : Cells
  pub inverses : List (List Inverse)

abbrev pub inverses_code : Coded (List Inverse)
inverses_code = coded_list inverse.the_row.coded

abbrev pub changing_code : Coded Changing
changing_code =
    code_by (Cells × List (List Inverse)) (coded× coded_cells (coded_list inverses_code)) (λ c. (c.cells, c.inverses))
    (λ p. record { cells = p.0; inverses = p.1 }) (λ _. refl)

-- the inverses of what a position did; none where there is no such position
abbrev pub done_at : Changing → ℕ → List Inverse
done_at c position = slice_index_or c.inverses position []

-- a position did an operation
abbrev pub acted : Changing → ℕ → Op → Changing
acted c position op = record {
  cells = cells_after op c.cells;
  inverses = slice_set c.inverses position (done_at c position ++ inverse_to op c.cells ∷ []);
}

-- what a position did is taken back, but for its first operations, of which there are so many
abbrev pub back_to : Changing → ℕ → ℕ → Changing
back_to c position mark = record {
  cells = back_all (drop mark (done_at c position)) c.cells;
  inverses = slice_set c.inverses position (take mark (done_at c position));
}

-- a position ended: what it did stands, or is taken back
abbrev pub ended : Changing → ℕ → Bool → Changing
ended c position stand = record {
  cells = if stand then c.cells else back_all (done_at c position) c.cells;
  inverses = slice_set c.inverses position [];
}

-- the counts after the changes of all positions
abbrev pub counts_of : List (List Inverse) → Counts → Counts
counts_of [] counts = counts
counts_of (is ∷ rest) counts = counts_of rest (opened_all is counts)
