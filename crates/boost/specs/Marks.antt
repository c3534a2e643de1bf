-- The open levels of an attempt: its marks, the room for those that close them, and what leaving the innermost one does.
use Rattle.std.specs.Prelude.{◌≡◌, ℕ, ◌+◌, ◌≤◌, Bool, true, false, List, [], ◌∷◌, ◌++◌, map, length, reverse, take, drop, Vec, vec_len, vec_capacity}
use Rattle.spec_ledger.specs.declared.Inverse.{Inverse}
use Rattle.spec_ledger.specs.declared.Op.{Op}
use Rattle.spec_ledger.specs.declared.TraceStep.{TraceStep}
use Rattle.spec_ledger.specs.declared.TraceStep.TheVariants.{Kept, Dropped}
use Rattle.spec_ledger.specs.Book.{Attempt, back_all, standing, standing_at, with_step}
use Rattle.storage.specs.Counts.{Store, closed_all}

-- each operation that stands has an inverse; each open mark is the number of those before it, the innermost last; and there is room for the marks that close them
pub record AreMarks {A : Type 0} (trace : Vec TraceStep A) (inverses : List Inverse) (marks : Vec ℕ A) : Type 0 where
  pub even : length inverses ≡ length (standing trace.items)
  pub marks_are : reverse marks.items ≡ map length (standing_at trace.items).marks
  pub room : vec_len trace + vec_len marks ≤ vec_capacity trace

-- the inverses that are taken back where a level is left, at whose mark these operations stood: those made since, or none where its changes stand
abbrev pub since : List Op → Bool → Attempt → List Inverse
since stood true a = []
since stood false a = drop (length stood) a.inverses

-- the attempt that has left it
abbrev pub left_with : List Op → Bool → Attempt → Attempt
left_with stood true a = with_step a Kept
left_with stood false a = record a { trace = a.trace ++ Dropped ∷ []; inverses = take (length stood) a.inverses }

-- an attempt leaves its innermost level, over these cells
pub record IsLeft (old new : Attempt) (before after : Store) (keep : Bool) : Type 0 where
  pub stood : List Op
  pub outer : List (List Op)
  pub entered : (standing_at old.trace).marks ≡ stood ∷ outer
  pub attempt_is : new ≡ left_with stood keep old
  pub cells_are : after.cells ≡ back_all (since stood keep old) before.cells
  pub unsettled_are : after.unsettled ≡ closed_all (since stood keep old) before.unsettled
