-- What the slots of a store mean.
use Rattle.std.specs.Prelude.{◌≡◌, ℕ, ◌+◌, ◌-◌, ◌<◌, ◌^◌, Option, Some, None, List, [], ◌∷◌, length, slice_index_or}
use Rattle.std.specs.FinMap.{empty, from_sorted, find}
use Rattle.std.specs.FinMap.Entries.{by_order}
use Rattle.spec_ledger.specs.declared.Lock.{Lock}
use Rattle.storage.specs.declared.Slot.{Slot}
use Rattle.spec_ledger.specs.declared.Inverse.{Inverse}
use Rattle.spec_ledger.specs.declared.Inverse.TheVariants.{Keep, Subtract, Restore}
use Rattle.spec_ledger.specs.declared.Kind.TheVariants.{Counter}
use Rattle.spec_ledger.specs.Cells.{Cells, lock_cmp, counter, set_at, subtracted, AreCells, IsOfItsType, AreOfTheirTypes}
use Rattle.storage.specs.Counts.{Counts}

-- the cells of a list in the order of locks
abbrev pub base_of : List (Lock × ℕ) → Cells
base_of base = from_sorted base

-- the cells of a base with some slots over it
abbrev pub cells_in : Cells → List (Lock × Slot) → Cells
cells_in base [] = base
cells_in base (e ∷ es) = set_at (cells_in base es) e.0 e.1.cell

-- the unsettled changes of some slots: what their numbers are above the floor
abbrev pub counts_in : ℕ → List (Lock × Slot) → Counts
counts_in floor [] = empty
counts_in floor (e ∷ es) = set_at (counts_in floor es) e.0 (counter (e.1.unsettled - floor))

-- what a slot holds, if there is one, and else what the base has below it
abbrev pub cell_in : Option ℕ → Option Slot → Option ℕ
cell_in below None = below
cell_in below (Some s) = s.cell

abbrev pub count_in : ℕ → Option Slot → ℕ
count_in floor None = 0
count_in floor (Some s) = s.unsettled - floor

-- what a cell holds once a change of it is taken back
abbrev pub cell_back : Inverse → Option ℕ → Option ℕ
cell_back Keep cell = cell
cell_back (Subtract place value) cell = subtracted value cell
cell_back (Restore place former) cell = former

-- a number in front, if there is one
abbrev pub with_cell : Lock → Option ℕ → List (Lock × ℕ) → List (Lock × ℕ)
with_cell lock None cells = cells
with_cell lock (Some value) cells = (lock, value) ∷ cells

-- the cells that these slots hold, in their order
abbrev pub held_in : List (Lock × Slot) → List (Lock × ℕ)
held_in [] = []
held_in (e ∷ es) = with_cell e.0 e.1.cell (held_in es)

-- a cell among slots, where rest merges those behind it with slots
abbrev pub merged_at : Lock × ℕ → (List (Lock × Slot) → List (Lock × ℕ)) → List (Lock × Slot) → List (Lock × ℕ)
merged_at b rest [] = b ∷ rest []
merged_at b rest (e ∷ es) = by_order (lock_cmp b.0 e.0) (b ∷ rest (e ∷ es)) (with_cell e.0 e.1.cell (rest es)) (with_cell e.0 e.1.cell (merged_at b rest es))

-- the cells of a base and of the slots over it, in the order of locks where both are
abbrev pub merged : List (Lock × ℕ) → List (Lock × Slot) → List (Lock × ℕ)
merged [] es = held_in es
merged (b ∷ bs) es = merged_at b (merged bs) es

-- the cell at a place of a list in the order of locks is that of a lock
pub record IsFoundAt (base : List (Lock × ℕ)) (lock : Lock) (at : ℕ) : Type 0 where
  pub in_range : at < length base
  pub found : (d : Lock × ℕ) → find lock_cmp lock base ≡ Some (slice_index_or base at d).1

-- slots of which the first was taken, if there was one
abbrev pub left_of : Option (Lock × Slot) → List (Lock × Slot) → List (Lock × Slot)
left_of None es = []
left_of (Some e) es = e ∷ es

-- the slot of a number, in which nothing is unsettled
abbrev pub with_settled : Lock × ℕ → Lock × Slot
with_settled e = (e.0, record { cell = Some e.1; unsettled = 0 })

-- each cell is one that a program can hold, and no counter is at 0
abbrev pub AreHeld : List (Lock × ℕ) → Type 0
AreHeld [] = Unit {0}
AreHeld (c ∷ cs) = IsOfItsType c.0 c.1 × (c.0.kind ≡ Counter → 0 < c.1) × AreHeld cs

-- a store has so many cells of its base and slots together at most
abbrev pub AreFew : List (Lock × ℕ) → List (Lock × Slot) → Type 0
AreFew base es = length base + length es < 2 ^ 63

-- What a store keeps of its base and its slots: no counter is at 0, each number is of its type, and no count is above the top.
pub record AreKept (top : ℕ) (base : List (Lock × ℕ)) (es : List (Lock × Slot)) : Type 0 where
  pub are : AreCells (cells_in (base_of base) es)
  pub types : AreOfTheirTypes (cells_in (base_of base) es)
  pub below : counts_in top es ≡ empty
  pub few : AreFew base es
