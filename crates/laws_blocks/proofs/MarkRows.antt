-- Traces with marks: what stands, what is asked for, and which replies they get.
use Rattle.std.proofs.Common.{◌≡◌, Some, [], ◌∷◌, List, refl}
use Rattle.std.specs.FinMap.{empty}
use Rattle.spec_ledger.specs.declared.CellKey.{CellKey}
use Rattle.spec_ledger.specs.declared.Op.TheVariants.{Get, Put}
use Rattle.spec_ledger.specs.declared.Reply.{Reply}
use Rattle.spec_ledger.specs.declared.Reply.TheVariants.{Nothing}
use Rattle.spec_ledger.specs.declared.Mode.TheVariants.{Excl}
use Rattle.spec_ledger.specs.declared.TraceStep.{TraceStep}
use Rattle.spec_ledger.specs.declared.TraceStep.TheVariants.{Did, Opened, Kept, Dropped}
use Rattle.spec_ledger.specs.Cells.{Cells, map_at, cells_after, reply_to}
use Rattle.spec_ledger.specs.Modes.{mode_at, ops_of}
use Rattle.spec_ledger.specs.Book.{after, ops_after, standing, standing_at, GetsReplies}

abbrev place : CellKey
place = record { contract = 0; key = 7 }

abbrev none : Cells
none = empty

-- 1 is put; in a level of its own 2 is put, which is undone; what is there then is got
abbrev dropped_then : Reply → List TraceStep
dropped_then got = Did (Put place 1) Nothing ∷ (Opened ∷ (Did (Put place 2) Nothing ∷ (Dropped ∷ (Did (Get place) got ∷ []))))

-- what stands is the rest, what was asked for is all
row_standing : (got : Reply) → standing (dropped_then got) ≡ Put place 1 ∷ (Get place ∷ [])
row_standing got = refl

row_asked : (got : Reply) → ops_of (dropped_then got) ≡ Put place 1 ∷ (Put place 2 ∷ (Get place ∷ []))
row_asked got = refl

-- the cells are those of what stands, and so is what is got
row_after : (got : Reply) → after (dropped_then got) none ≡ ops_after (Put place 1 ∷ (Get place ∷ [])) none
row_after got = refl

row_replies : GetsReplies (dropped_then (reply_to (Get place) (cells_after (Put place 1) none))) none
row_replies = (refl, (refl, (refl, tt)))

-- no other reply than that over the cells at the matching mark
no_row_replies : (got : Reply) → ¬ (got ≡ reply_to (Get place) (cells_after (Put place 1) none)) → ¬ (GetsReplies (dropped_then got) none)
no_row_replies got other g = other g.1.1.0

-- by Kept what was done stands
row_kept : standing (Opened ∷ (Did (Put place 2) Nothing ∷ (Kept ∷ []))) ≡ Put place 2 ∷ []
row_kept = refl

-- a mark that is open stays open
row_open : (standing_at (Did (Put place 1) Nothing ∷ (Opened ∷ (Did (Put place 2) Nothing ∷ [])))).marks ≡ (Put place 1 ∷ []) ∷ []
row_open = refl

-- a level that is dropped lets no lock go
row_held : mode_at (map_at place) (ops_of (Opened ∷ (Did (Put place 2) Nothing ∷ (Dropped ∷ [])))) ≡ Some Excl
row_held = refl
