-- What is left of the shards of a book.
use Rattle.std.specs.Prelude.{◌≡◌, refl, ℕ, ◌<◌, List, length, slice_index_or}
use Rattle.std.specs.Coded.{Coded, code_by, coded×, coded_list}
use Rattle.std.specs.List.{AllByRecursion}
use Rattle.spec_ledger.specs.declared.Lock.{Lock}
use Rattle.spec_ledger.specs.Cells.{Cells}
use Rattle.spec_ledger.specs.Codes.{coded_cells, coded_entry}
use Rattle.spec_ledger.specs.Book.{CommittedCall, IsDefined, settled}
use Rattle.spec_ledger.specs.Modes.{touched}
use Rattle.spec_ledger.specs.Shards.{AreCellsOf, entries_in, shard_of}

-- what is left of a shard: the cells that its book was opened with, the cells now, and its entries
pub record Part : Type 0 where
  pub opening : Cells
  pub cells : Cells
  pub entries : List CommittedCall

abbrev pub part_code : Coded Part
part_code =
    code_by (Cells × (Cells × List CommittedCall)) (coded× coded_cells (coded× coded_cells (coded_list coded_entry))) (λ p. (p.opening, (p.cells, p.entries)))
    (λ p. record { opening = p.0; cells = p.1.0; entries = p.1.1 }) (λ _. refl)

-- what the book of a shard kept: the entries are a serial run from the opening cells, which leaves the cells, and each has the joins over its trace
pub record IsPart (p : Part) : Type 0 where
  pub defined : IsDefined p.opening p.entries
  pub settles : p.cells ≡ settled p.opening p.entries
  pub modes : AllByRecursion (λ e. e.modes ≡ touched e.trace) p.entries

-- it is a shard's part of the book with these opening cells and this journal
pub record IsPartOf (home : Lock → ℕ) (opening : Cells) (journal : List CommittedCall) (shard : ℕ) (p : Part) : Type 0 where
  pub cells : AreCellsOf home shard opening p.opening
  pub entries : p.entries ≡ entries_in home shard journal

-- each of these, the first of shard 0, is its shard's part of the book
abbrev pub AreParts : Cells → List CommittedCall → List Part → Type 0
AreParts opening journal parts = (shard : ℕ) (other : Part) → shard < length parts → IsPartOf (shard_of (length parts)) opening journal shard (slice_index_or parts shard other)

-- each kept what the book of a shard keeps
abbrev pub AreWhole : List Part → Type 0
AreWhole parts = (shard : ℕ) (other : Part) → shard < length parts → IsPart (slice_index_or parts shard other)
